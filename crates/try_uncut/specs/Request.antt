-- A request's head: seven numbers of eight bytes.
use Rattle.std.specs.Prelude.{ℕ, List}
use Rattle.wire.specs.Read.{number_at}
use Rattle.try_uncut.specs.declared.request.Request.{Request}

abbrev pub request_of : List ℕ → Request
request_of s = record {
  w = number_at s 0;
  p = number_at s 8;
  q = number_at s 16;
  defined = number_at s 24;
  number = number_at s 32;
  row = number_at s 40;
  entries = number_at s 48;
}
