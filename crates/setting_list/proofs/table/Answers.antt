-- One setting less is left after each turn, and setting i is the first of those that are.
use Rattle.std.proofs.Common.{ℕ, suc, ◌≡◌, ◌+◌, ◌-◌, ◌<◌, List, sym, ap, ◌∙◌, add-one, arith}
use Rattle.limits.specs.Sizes.{aperture_min}
use Rattle.aperture.specs.declared.Table.{Table}
use Rattle.aperture.specs.declared.Changed.{Changed}
use Rattle.aperture.specs.Table.{empty, defined}
use Rattle.setting_list.specs.Settings.{setting_at, setting_count, Tabled, tabled_from, table_of}
use Rattle.setting_list.proofs.Defined.{none_left, next_defined, next_refused}
use Rattle.setting_list.proofs.Held.{setting_is}
use Rattle.setting_list.proofs.table.Goals as goal

abbrev tried : List ℕ → ℕ → Table → Changed
tried l i t = defined t (aperture_min + i) (setting_at l i)

abbrev the_table : Tabled → Table
the_table r = r.table

here : (l : List ℕ) (i : ℕ) (t : Table) → i < setting_count l → tabled_from l i (setting_count l - i) t ≡ table_of l →
    tabled_from l i (suc (setting_count l - (i + 1))) t ≡ table_of l
here l i t h e = let fewer : suc (setting_count l - (i + 1)) ≡ setting_count l - i = omega arith in ap (λ (m : ℕ). tabled_from l i m t) fewer ∙ e

pub loop-i-init : goal.loop-i-init
loop-i-init c =
    let l = c.args.settings.now in
    let all : setting_count l - 0 ≡ setting_count l = omega arith in
    ap (λ (t : Table). tabled_from l 0 (setting_count l - 0) t) c.none-t.ensures ∙ ap (λ (m : ℕ). tabled_from l 0 m empty) all

pub returns-then-changed-ne-DONE : goal.returns-then-changed-ne-DONE
returns-then-changed-ne-DONE c =
    let l = c.args.settings.now in
    let i = c.loop-i.i in
    let t = c.loop-i.t in
    let below : i < setting_count l = omega (arith, c.count_of-i-end.ensures, c.loop-i-test.true) in
    let changed : c.define-changed.result ≡ tried l i t =
    c.define-changed.ensures ∙ ap (defined t (aperture_min + i)) (setting_is l i c.number.ensures c.number-in-loop-i.ensures c.number-in-loop-i-2.ensures) in
    c.none.ensures
    ∙ ap the_table
    (sym (next_refused l i t _ (λ e. c.if-changed-ne-DONE.true (ap (λ (r : Changed). r.refusal) changed ∙ e))) ∙ here l i t below c.loop-i.invariant)

pub loop-i-preserved : goal.loop-i-preserved
loop-i-preserved c =
    let l = c.args.settings.now in
    let i = c.loop-i.i in
    let t = c.loop-i.t in
    let n = setting_count l - (i + 1) in
    let below : i < setting_count l = omega (arith, c.count_of-i-end.ensures, c.loop-i-test.true) in
    let changed : c.define-changed.result ≡ tried l i t =
    c.define-changed.ensures ∙ ap (defined t (aperture_min + i)) (setting_is l i c.number.ensures c.number-in-loop-i.ensures c.number-in-loop-i-2.ensures) in
    ap (tabled_from l (i + 1) n) (ap (λ (r : Changed). r.table) changed)
    ∙ ap (λ (k : ℕ). tabled_from l k n (tried l i t).table) (add-one i)
    ∙ sym (next_defined l i t n (sym (ap (λ (r : Changed). r.refusal) changed) ∙ c.if-changed-ne-DONE.false))
    ∙ here l i t below c.loop-i.invariant

pub returns : goal.returns
returns c =
    let l = c.args.settings.now in
    let i = c.loop-i.i in
    let t = c.loop-i.t in
    let none : 0 ≡ setting_count l - i = omega (arith, c.count_of-i-end.ensures, c.loop-i-test.false) in
    ap the_table (none_left l i t ∙ ap (λ (m : ℕ). tabled_from l i m t) none ∙ c.loop-i.invariant)
