-- The claims on the language.
use native.Mathlib.Omega.{arith}
use lib.ListN.{length}
use lib.IntN.{pos}
use Rattle.language.specs.Grammar.{first}
use Rattle.language.specs.Theorems.{EachFile, OneWay, HeardExactly}
use Rattle.language.proofs.EachFile.{each_read}
use Rattle.language.proofs.OneWay.{reads_once}
use Rattle.language.proofs.HeardExactly.{reads_heard}

pub each_file : EachFile
each_file l = let r = each_read (length l) first 0 l (omega arith) in (r.forms, (r.bad, r.reads))

pub one_way : OneWay
one_way l fs gs bad worse r s = reads_once r gs worse s

pub heard_exactly : HeardExactly
heard_exactly l fs bad h r = reads_heard r (pos 0) (pos 0) (omega arith)
