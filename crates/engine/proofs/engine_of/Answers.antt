-- The flanks are set up for the path's segment, and rise to the row.
use Rattle.std.proofs.Common.{◌≡◌, rules, List, ℕ, ◌+◌, ◌-◌, length, slice_index_or, ℤ, pos, w32, FitsSigned}
use Rattle.std.proofs.Math.Facts.{to_z-of_z}
use Rattle.flanks.specs.Flanks.{begun}
use Rattle.engine.proofs.engine_of.Goals as goal

same_begun : (count : ℕ) (xs ys : List ℤ) {ax ay bx by ax' ay' bx' by' : ℤ} → ax ≡ ax' → ay ≡ ay' → bx ≡ bx' → by ≡ by' → begun count xs ys ax ay bx by ≡ begun count xs ys ax' ay' bx' by'
same_begun count xs ys a b c d = cc

pub returns : goal.returns
returns c =
    let z = c.args.pen in
    let path = c.args.path.now in
    let last = length path - 2 in
    let p : FitsSigned w32 (slice_index_or path 0 (pos 0)) = search rules in
    let q : FitsSigned w32 (slice_index_or path 1 (pos 0)) = search rules in
    let r : FitsSigned w32 (slice_index_or path last (pos 0)) = search rules in
    let s : FitsSigned w32 (slice_index_or path (last + 1) (pos 0)) = search rules in
    rw (c.rise-flanks.ensures, c.begin-begun.ensures, same_begun z.count z.x z.y (to_z-of_z {w = w32} p) (to_z-of_z {w = w32} q) (to_z-of_z {w = w32} r) (to_z-of_z {w = w32} s))
