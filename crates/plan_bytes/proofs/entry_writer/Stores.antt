-- The stores of an entry's bytes. Assumes nothing.
use Prim.Native.Nat.{ℕ, suc, ◌+◌, ◌≤◌}
use mathlib.Core.Path.{◌≡◌, ap, ◌∙◌}
use mathlib.Core.List.{List}
use native.Mathlib.Omega.{arith}
use lib.ListN.{length, set, length-set}
use lib.Seq.{sets, length-sets}
use Rattle.encoding.specs.Numbers.{bytes_of}
use Rattle.encoding.specs.Buffers.{room_fault, buffer_after}
use Rattle.encoding.proofs.Numbers.{length_bytes_of}
use Rattle.encoding.proofs.Room.{stored_where_fits}
use Rattle.encoding.proofs.Stores.{sets_append}
use Rattle.plans.specs.declared.Entry.{Entry}
use Rattle.plans.specs.Entries.{entry_size}
use Rattle.plans.specs.Writing.{entry_bytes}

-- The stores of an entry: the kind, the set's eight bytes, the length's two.
entry_stores : (l : List ℕ) (i : ℕ) (e : Entry)
    → sets (sets (set l i e.kind) (i + 1) (bytes_of 8 e.set)) (i + 9) (bytes_of 2 e.length)
    ≡ sets l i (entry_bytes e)
unfolding entry_bytes
entry_stores l i e =
    let s : i + 1 ≡ suc i = omega arith in
    let n : i + 9 ≡ suc i + 8 = omega arith in
    rw (
      s,
      n,
      sets_append (set l i e.kind) (suc i) (bytes_of 8 e.set) (bytes_of 2 e.length),
      length_bytes_of 8
          e.set,
    )

-- The same, using what `write_number` leaves if there is room.
pub entry_written : (l : List ℕ) (i : ℕ) (e : Entry) (mid last : List ℕ) → i + entry_size ≤ length l
    → mid ≡ buffer_after (room_fault 8 (length (set l i e.kind)) (i + 1)) (bytes_of 8 e.set) (set l i e.kind)
    (i + 1)
    → last ≡ buffer_after (room_fault 2 (length mid) (i + 9)) (bytes_of 2 e.length) mid (i + 9) → last
    ≡ sets l i (entry_bytes e)
entry_written l i e mid last h first second =
    let start = set l i e.kind in
    let size : length start ≡ length l = length-set l i e.kind in
    let stored = first ∙ stored_where_fits start (i + 1) (bytes_of 8 e.set) 8 (length_bytes_of 8 e.set)
    (omega arith) in
    let kept : length mid ≡ length l = ap length stored ∙ length-sets start (i + 1) (bytes_of 8 e.set) ∙ size in
    second
    ∙ stored_where_fits mid (i + 9) (bytes_of 2 e.length) 2 (length_bytes_of 2 e.length) (omega arith)
    ∙ ap (λ m. sets m (i + 9) (bytes_of 2 e.length)) stored
    ∙ entry_stores l i e
