-- A test has the value of the flag that a function returned for it and that the code then tested. Assumes nothing.
use mathlib.Core.Path.{◌≡◌, sym, ◌∙◌}
use mathlib.Core.Bool.{Bool, true, false, not}
use borrow.Author.Tests.{not-true, not-false}

pub passes : (flag test : Bool) → flag ≡ test → not flag ≡ false → test ≡ true
passes flag test e h = sym e ∙ not-false flag h

pub fails : (flag test : Bool) → flag ≡ test → not flag ≡ true → test ≡ false
fails flag test e h = sym e ∙ not-true flag h
