-- What two sound headers say.
use Prim.Native.Nat.{ℕ}
use mathlib.Core.Path.{◌≡◌, sym, ap, ap₂, ◌∙◌}
use mathlib.Core.Bool.{Bool, true, cond, ◌&&◌}
use lib.Dec.{eqb}
use Rattle.std.specs.Prelude.{Ok, Err}
use Rattle.pbm.specs.declared.read.Header.{Header}
use Rattle.pbm.specs.declared.read.Header.TheVariants.{Sound}
use Rattle.compare.specs.declared.Refusal.TheVariants.{UnequalSizes}
use Rattle.compare.specs.Refusals.{sizes_of}

-- headers of one size
pub same_sizes : {first second : Header} (c r n d s m : ℕ) → first ≡ Sound c r n → second ≡ Sound d s m → (eqb c d && eqb r s) ≡ true →
    Ok (record { columns = c; rows = r; start = n }) ≡ sizes_of first second
same_sizes c r n d s m e f p = ap (λ (b : Bool). cond b (Ok (record { columns = c; rows = r; start = n })) (Err UnequalSizes)) (sym p) ∙ ap₂ sizes_of (sym e) (sym f)
