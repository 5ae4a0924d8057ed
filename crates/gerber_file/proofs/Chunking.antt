-- AnyChunking: two ways to call over the same bytes are two sessions of the machine, and both give what reading all bytes gives.
use Prim.Native.Nat.{ℕ}
use mathlib.Core.Path.{◌≡◌, sym, ap, ◌∙◌}
use mathlib.Core.List.{List}
use mathlib.Core.Option.{Option}
use lib.IntN.{ℤ}
use Rattle.aperture.specs.declared.Table.{Table}
use Rattle.chunks.specs.Machine as chunks·
use Rattle.chunks.proofs.Theorems.{any_chunks}
use Rattle.gerber.specs.declared.Reader.{Reader}
use Rattle.gerber.specs.Reader.{State, Stroke, Fault, step_of}
use Rattle.gerber_file.specs.Calls.{Handed, Calls}
use Rattle.gerber_file.specs.Theorems.{AnyChunking}
use Rattle.gerber_file.proofs.Sessions.{calls_session}

abbrev pub AllRead : Type 0
AllRead = chunks·.Read State Stroke Fault

-- calls give what all bytes give
pub calls_read : (t : Table) (k : ℕ) (r u : Reader) (p q : List ℤ) (l : List ℕ) (given : List Handed) (fault : Option Fault) → r.refusal ≡ 0 → Calls t k r p l given fault u q →
    chunks·.read (step_of t) k (record { reader = r; path = p }) l ≡ record { given = given; failure = fault; state = record { reader = u; path = q } }
calls_read t k r u p q l given fault h c =
    any_chunks (step_of t) k (record { reader = r; path = p }) (record { reader = u; path = q }) l given fault (calls_session t c h)

pub any_chunking : AnyChunking
any_chunking t k r u₁ u₂ p q₁ q₂ l g₁ g₂ f₁ f₂ h c₁ c₂ =
    let same = sym (calls_read t k r u₁ p q₁ l g₁ f₁ h c₁) ∙ calls_read t k r u₂ p q₂ l g₂ f₂ h c₂ in
    record {
      strokes = ap (λ (z : AllRead). z.given) same;
      refusal = ap (λ (z : AllRead). z.failure) same;
      reader = ap (λ (z : AllRead). z.state.reader) same;
      path = ap (λ (z : AllRead). z.state.path) same;
    }
