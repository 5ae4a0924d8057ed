-- A setting outside the limits is refused, and a length that no path has; otherwise the coordinates are those of the bytes.
use mathlib.Core.Path.{◌≡◌, refl, sym, ◌∙◌}
use mathlib.Core.Bool.{true}
use lib.ListN.{length}
use Rattle.limits.specs.Refusal as refusal
use Rattle.limits.proofs.Verdicts.{unless_true, unless_refused}
use Rattle.wire.specs.Read.{entries_of}
use Rattle.outcome.specs.Read.{is_path}
use Rattle.setting.specs.declared.Checked.TheVariants.{Taken}
use Rattle.setting.specs.Answer.{checked}
use Rattle.host_band.specs.Call.{setting, entries_call, bytes_call}
use Rattle.host_band.proofs.Verdicts.{setting_first, length_next, read_last}
use Rattle.host_band.proofs.answer.of_bytes.Goals as goal
use Rattle.host_band.proofs.answer.of_bytes.Goals.{In-Passed, In-Taken}

-- where the setting is taken
is_taken : (c : In-Taken) → checked (setting c.args.call) ≡ Taken c.in-Taken.field-0
is_taken c = sym c.check.ensures ∙ c.in-Taken.is

-- where the length is passed: the bytes are a path
read : (c : In-Passed) → is_path (length c.args.path.now) ≡ true
read c = unless_true _ refusal.path (sym c.bytes_check-of_bytes.ensures ∙ c.in-Passed.is)

-- and what is left to be checked is checked of its coordinates
rest : (c : In-Passed) → let a = c.args in
    entries_call a.call (entries_of a.path.now) a.bytes.now ≡ bytes_call a.call a.path.now a.bytes.now
rest c =
    let a = c.args in
    let q = a.call in
    read_last (setting q) a.path.now q.columns q.rows q.first q.n q.stride a.bytes.now (is_taken (record { before = c.before.before.before; type_inv = record { bytes = c.type_inv.bytes; path = c.type_inv.path } })) (read c)

pub returns-in_default : goal.returns-in_default
returns-in_default c =
    let a = c.args in
    let q = a.call in
    setting_first (setting q) a.path.now q.columns q.rows q.first q.n q.stride a.bytes.now c.refused.ensures refl (sym c.check.ensures ∙ c.in_default.is)

pub returns-in_default-of_bytes : goal.returns-in_default-of_bytes
returns-in_default-of_bytes c =
    let a = c.args in
    let q = a.call in
    let r = unless_refused (is_path (length a.path.now)) refusal.path c.bytes_check-of_bytes.ensures c.in_default-of_bytes.is in
    length_next (setting q) a.path.now q.columns q.rows q.first q.n q.stride a.bytes.now (is_taken (goal.at.returns-in_default-of_bytes c).In-Taken) c.refused-in_default-of_bytes.ensures r.0 r.1

pub returns-then-path-le-SHORT_BYTES : goal.returns-then-path-le-SHORT_BYTES
returns-then-path-le-SHORT_BYTES c = c.decoded.ensures ∙ rest (goal.at.returns-then-path-le-SHORT_BYTES c).In-Passed

pub returns : goal.returns
returns c = c.decoded-2.ensures ∙ rest (goal.at.returns c).In-Passed
