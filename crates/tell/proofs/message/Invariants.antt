-- In every turn what is left of the text has the rest of the message.
use Rattle.std.proofs.Common.{◌≡◌}
use Rattle.tell.specs.Message.{message_of}
use Rattle.tell.proofs.Seen.{seen}
use Rattle.tell.proofs.message.Given as goal

abbrev pub invariant-loop-i : goal.invariant-loop-i
invariant-loop-i l = seen l.text l.i ≡ message_of l.text
