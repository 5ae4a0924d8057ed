-- What each call packs is the row of the definition.
use Prim.Native.Nat.{ℕ, ◌+◌, ◌/◌, ◌<◌}
use mathlib.Core.Path.{◌≡◌, sym, ap, subst, ◌∙◌}
use mathlib.Core.List.{List}
use lib.ListN.{drop}
use lib.IntN.{ℤ}
use Rattle.plane.specs.Point.{Pt}
use Rattle.wire.specs.Read.{entries_of}
use Rattle.setting.specs.declared.Setting.{Setting}
use Rattle.pen.specs.Polygon.{pen}
use Rattle.pen.specs.Answer.{pen_corners}
use Rattle.checks.proofs.Given.{zero_gave}
use Rattle.packed.specs.Packed.{packed_over, packed_offer}
use Rattle.packed.proofs.Stored.{packed_call_is, row_stored}
use Rattle.packed.proofs.Bits.{over_bits, over_rest}
use Rattle.outcome.specs.Outcome.{host_verdict}
use Rattle.host.specs.Host.{host_packed_row}
use Rattle.demands.specs.Reports.{heard}
use Rattle.demands.specs.Packs.{Packs, packed-row, packed-for, c-packed-row}
use Rattle.demands.specs.Demand1.{taken_apart}
use Rattle.demands.specs.Demand2.{Pens, Packed, PacksBlack}
use Rattle.demands.proofs.Heard.{packed_apart}
use Rattle.demands.proofs.Reported.{host_not_zero}
use Rattle.demands.proofs.Weight.{pens_laws}

-- the buffer holds the packed row of the path, and the count is its length
record Over (cs : List Pt) (p : List ℤ) (columns j count : ℕ) (before after : List ℕ) : Type 0 where
  bytes : count ≡ (columns + 7) / 8
  left : after ≡ packed_over cs p columns j before

over_pen : {cs ds : List Pt} {p : List ℤ} {columns j count : ℕ} {before after : List ℕ} → cs ≡ ds → Over cs p columns j count before after → Over ds p columns j count before after
over_pen {p = p} {columns} {j} {count} {before} {after} q o = subst (λ (cs : List Pt). Over cs p columns j count before after) q o

c_over : (σ : Setting) (bytes : List ℕ) (columns rows j : ℕ) (before after : List ℕ) (answer : ℕ) →
    record { answer = answer; bytes = after } ≡ host_packed_row σ bytes columns rows j before → (heard answer).refusal ≡ 0 →
    Over (pen σ) (entries_of bytes) columns j (heard answer).count before after
unfolding host_packed_row
c_over σ bytes columns rows j before after answer e z =
    let g = zero_gave (packed_offer (pen σ) (entries_of bytes) columns j before) (host_verdict σ bytes columns rows j) (host_not_zero σ bytes columns rows j) (heard answer) after
    (ap taken_apart e ∙ packed_apart σ bytes columns rows j before) z in
    record { bytes = g.count; left = g.left }

packs_over : {cs : List Pt} {p : List ℤ} {columns rows j count : ℕ} {before after : List ℕ} → Packs cs p columns rows j count before after → Over cs p columns j count before after
packs_over {p = p} {columns} {rows} {j} (packed-row {σ = σ} h q before after a e z) =
    let s = row_stored (pen σ) p columns rows j before a after (e ∙ packed_call_is h p columns rows j before) z in
    over_pen q (record { bytes = s.count; left = s.left })
packs_over {p = p} {columns} {rows} {j} (packed-for pen q before after a e z) =
    let s = row_stored (pen_corners pen) p columns rows j before a after e z in
    over_pen q (record { bytes = s.count; left = s.left })
packs_over {columns = columns} {rows} {j} (c-packed-row {σ} t q bytes b before after answer e z) =
    over_pen q (subst (λ (p : List ℤ). Over (pen σ) p columns j (heard answer).count before after) b (c_over σ bytes columns rows j before after answer e z))

-- so its bits are those of the black pixels, for every pen with the laws
over_black : {cs : List Pt} → Pens cs → {p : List ℤ} {columns j count : ℕ} {before after : List ℕ} → Over cs p columns j count before after → Packed cs p columns j count before after
over_black {cs} pens {p} {columns} {j} {count} {before} {after} o = record {
  bytes = o.bytes;
  bits = λ k b hk hb. over_bits cs _ _ (pens_laws pens) p columns j before after o.left k b (subst (λ (n : ℕ). k < n) o.bytes hk) hb;
  rest = subst (λ (n : ℕ). drop n after ≡ drop n before) (sym o.bytes) (over_rest cs _ _ (pens_laws pens) p columns j before after o.left);
}

pub packs_black : PacksBlack
packs_black cs pens p columns rows j count before after r = over_black pens (packs_over r)
