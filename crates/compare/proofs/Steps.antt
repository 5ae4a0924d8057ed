-- One row of a report: it is there and put, or nothing happens.
use Prim.Native.Nat.{ℕ, ◌-◌, ◌≤◌}
use native.Mathlib.Omega.{arith}
use mathlib.Core.Path.{◌≡◌, refl, sym, ap, ◌∙◌}
use mathlib.Core.Bool.{Bool, true, false, cond}
use mathlib.Core.List.{List}
use lib.Dec.{leb}
use lib.ListN.{length}
use borrow.Author.Tests.{le-leb}
use Rattle.std.specs.Prelude.{Option, Some, None}
use Rattle.integers.proofs.Tests.{true_and}
use Rattle.text.specs.Put.{Put, started}
use Rattle.text.proofs.Pieces.{put_started}
use Rattle.lines.specs.Put.{RowPut, is_ready, row_put}
use Rattle.lines.proofs.Ready.{ready_facts, row_ready, row_not}
use Rattle.lines.proofs.Theorems.{row_fits}
use Rattle.compare.specs.declared.Overlay.{Overlay}
use Rattle.compare.specs.Step.{Stepped, is_next, next_text, stepped}

module _ (o : Overlay) (a b out : List ℕ) where
  abbrev ready : Bool
  ready = is_ready o.columns (o.left - 1) (length a) (length b) (length out)

  abbrev after : Stepped
  after = record { overlay = record { columns = o.columns; left = o.left - 1 }; count = Some (length (next_text o a b)); buffer = started (next_text o a b) out }

  abbrev before : Stepped
  before = record { overlay = o; count = None; buffer = out }

  -- where the next row is there, the step is what `stepped` says first
  pub steps : is_next o a b out ≡ true → stepped o a b out ≡ after
  steps e = ap (λ (t : Bool). cond t after before) e

  -- a row that is put is there, since otherwise nothing is; and its text is in the buffer
  pub row_put_lem : (k : ℕ) {out' : List ℕ} → 1 ≤ o.left → record { count = Some k; buffer = out' } ≡ row_put a b o.columns (o.left - 1) out →
      record { overlay = record { columns = o.columns; left = o.left - 1 }; count = Some k; buffer = out' } ≡ stepped o a b out
  row_put_lem k {out'} some put = go ready refl
    where
      -- since a row is left, it only has to be whole and to have room
      next_is : ready ≡ is_next o a b out
      next_is = true_and (leb 1 o.left) ready (le-leb 1 o.left some)

      here : ready ≡ true → ◌≡◌ {A = RowPut} (record { count = Some k; buffer = out' }) (record { count = Some (length (next_text o a b)); buffer = started (next_text o a b) out })
      here e =
          let r = ready_facts a b o.columns (o.left - 1) (length out) e in
          let f = row_fits a b o.columns (o.left - 1) r.rows.few r.row in
          put ∙ sym (row_ready a b o.columns (o.left - 1) out e)
          ∙ ap (λ (p : Put). record { count = Some p.end; buffer = p.buffer }) (put_started out (next_text o a b) (omega (arith, f, r.room)))

      go : (t : Bool) → ready ≡ t → record { overlay = record { columns = o.columns; left = o.left - 1 }; count = Some k; buffer = out' } ≡ stepped o a b out
      go true e =
          ap (λ (p : RowPut). record { overlay = record { columns = o.columns; left = o.left - 1 }; count = p.count; buffer = p.buffer }) (here e) ∙ sym (steps (sym next_is ∙ e))
      go false e = let h : ◌≡◌ {A = Option ℕ} (Some k) None = ap (λ (p : RowPut). p.count) (put ∙ sym (row_not a b o.columns (o.left - 1) out e)) in cc
