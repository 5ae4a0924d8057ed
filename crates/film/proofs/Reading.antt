-- The legend's text, read at once: by a reader at the start of a file, with the table of the settings, into lists of zeros.
use Prim.Native.Nat.{ℕ}
use mathlib.Core.Path.{◌≡◌, refl}
use mathlib.Core.Bool.{true, false}
use mathlib.Core.List.{List}
use lib.ListN.{replicate, set}
use lib.IntN.{ℤ, pos}
use Rattle.aperture.specs.declared.Table.{Table}
use Rattle.setting_list.specs.Settings.{table_of}
use Rattle.scan.specs.declared.Gap.TheVariants as gap·
use Rattle.scan.specs.declared.Mode.TheVariants.{Outside}
use Rattle.gerber.specs.declared.Reader.{Reader}
use Rattle.gerber.specs.Reader.{finished}
use Rattle.gather.specs.declared.Gathering.{Gathering}
use Rattle.gather.specs.declared.Finished.TheVariants.{Done}
use Rattle.gather.specs.Gather.{Gathered, begun, gathered, finishing}
use Rattle.film.specs.Legend.{settings, strokes, legend}

-- what the bytes of a text leave
abbrev pub left_by : List ℕ → Gathered
left_by text = gathered (begun 1000) (table_of settings).table text (replicate 626 (pos 0)) (replicate 77 0) (replicate 78 0)

-- where the arguments of the call are these
pub reads : (text : List ℕ) (g : Gathering) (t : Table) (p : List ℤ) (a s : List ℕ) → g ≡ begun 1000 → t ≡ (table_of settings).table →
    p ≡ replicate 626 (pos 0) → a ≡ replicate 77 0 → s ≡ replicate 78 0 → gathered g t text p a s ≡ left_by text
reads text g t p a s e f h k l = rw (e, f, h, k, l) refl

-- the reader behind the last byte, with the last stroke's aperture and end
abbrev reader : Reader
reader =
    record {
      unit = 1000;
      refusal = 0;
      place = 0;
      scanner = record { mode = Outside gap·.Ended; at = 6418; start = 6417; x = pos 9473000; y = pos 1024000 };
      aperture = 27;
      trace = record { placed = true; x = pos 9473; y = pos 1024; first = 626; filled = 626 };
    }

-- what is left of the legend's text: its strokes in the lists; the end of the last is not yet among the starts
abbrev pub left_legend : Gathered
left_legend =
    record {
      gathering = record { reader = reader; count = 77; lost = false };
      path = legend.entries;
      apertures = legend.apertures;
      starts = set legend.starts 77 0;
    }

-- and at the file's end
pub ended_legend : finishing left_legend.gathering left_legend.starts ≡ record { answer = Done; starts = legend.starts }
unfolding strokes legend finished finishing
ended_legend = refl
