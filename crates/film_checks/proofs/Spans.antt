-- Where the entries of a stroke stand: between its start and the next one, or nowhere.
use Prim.Native.Nat.{ℕ, ◌+◌, ◌≤◌}
use mathlib.Core.Path.{◌≡◌}
use mathlib.Core.Bool.{true, false, ◌&&◌}
use mathlib.Core.List.{List}
use native.Mathlib.Omega.{arith}
use lib.Dec.{leb}
use lib.ListN.{length, get_or}
use lib.IntN.{ℤ}
use borrow.Author.Tests.{leb-true}
use Rattle.drawing.proofs.Taken.{path_here, path_nowhere}
use Rattle.film_checks.specs.Code.{Spans}

module _ (starts : List ℕ) (entries : List ℤ) (k first end : ℕ) (e : first ≡ get_or starts k 0) (f : end ≡ get_or starts (k + 1) 0) where
  pub spans : first ≤ end → leb end (length entries) ≡ true → Spans starts entries k first end
  spans h l =
      let m = leb-true end (length entries) l in record { ordered = h; within = m; path = path_here starts entries k first end e f h m }

  pub no_span : (leb first end && leb end (length entries)) ≡ false → Spans starts entries k 0 0
  no_span h = record { ordered = omega arith; within = omega arith; path = path_nowhere starts entries k first end e f h }
