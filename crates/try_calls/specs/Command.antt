-- A command's head: seven numbers of eight bytes.
use Rattle.std.specs.Prelude.{ℕ, ◌==◌, if◌then◌else◌, List, Option, Some, None}
use Rattle.wire.specs.Read.{number_at}
use Rattle.try_calls.specs.declared.command.Form.TheVariants.{Row, Packed, Records}
use Rattle.try_calls.specs.declared.command.Kind.{Kind}
use Rattle.try_calls.specs.declared.command.Kind.TheVariants.{Start, Define, Remove, Draw}
use Rattle.try_calls.specs.declared.command.Command.{Command}

-- the kind that a number stands for
abbrev pub kind_of : ℕ → Option Kind
kind_of n =
    if n == 0 then Some Start else if n == 1 then Some Define else if n == 2 then Some Remove else
    if n == 3 then Some (Draw Row) else if n == 4 then Some (Draw Packed) else if n == 5 then Some (Draw Records) else None

abbrev pub with_kind : Option Kind → List ℕ → Option Command
with_kind None s = None
with_kind (Some k) s = Some (record {
  kind = k;
  number = number_at s 8;
  a = number_at s 16;
  b = number_at s 24;
  c = number_at s 32;
  room = number_at s 40;
  entries = number_at s 48;
})

-- the command of a head, unless it is of no kind
abbrev pub command_of : List ℕ → Option Command
command_of s = with_kind (kind_of (number_at s 0)) s

-- how many numbers, or bytes, a call is lent at most; and how many records: more than a path can have runs
abbrev pub room_max : ℕ
room_max = 8200

abbrev pub records_max : ℕ
records_max = 4100
