-- The two masks of an accepted call's line. Specification, clauses 9.7 and 9.9.
use Rattle.std.specs.Prelude.{ℕ, List, ◌∷◌, ◌++◌}
use Rattle.plans.specs.Entries.{mask_size_for}
use Rattle.digits.specs.Digits.{mask_by}
use Rattle.line_fields.specs.declared.mask_fields.MaskFormat.{MaskFormat}

-- A space and the digits of a mask of n bytes, from a table of pairs.
abbrev pub mask_field : List ℕ → ℕ → ℕ → List ℕ
mask_field pairs n mask = 32 ∷ mask_by pairs n mask

-- Who was granted, and who became entitled.
abbrev pub mask_fields : List ℕ → ℕ → ℕ → ℕ → List ℕ
mask_fields pairs n granted entitled = mask_field pairs n granted ++ mask_field pairs n entitled

-- The same, as a format writes them.
abbrev pub masks_in : MaskFormat → ℕ → ℕ → List ℕ
masks_in format granted entitled = mask_fields format.pairs.now (mask_size_for format.processors) granted entitled
