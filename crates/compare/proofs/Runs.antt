-- The program's calls give the report: it reads as much of each file as there is to know, and writes what the calls put.
use Prim.Native.Nat.{ℕ, ◌-◌, ◌*◌, ◌≤◌}
use native.Mathlib.Omega.{arith}
use mathlib.Core.Path.{◌≡◌, refl, sym, ap, ap₂, ◌∙◌}
use mathlib.Core.Bool.{Bool, true, false, cond, ◌&&◌}
use mathlib.Core.List.{List}
use lib.Dec.{ltb, eqb}
use lib.ListN.{length, take, drop, length-take, length-drop}
use lib.Seq.{take_at, drop-drop}
use borrow.Author.Tests.{lt-ltb, ltb-true, ltb-false}
use Rattle.std.specs.Prelude.{Ok, Err}
use Rattle.integers.proofs.Tests.{and_both, same_test}
use Rattle.limits.specs.Sizes.{is_size}
use Rattle.limits.proofs.Sizes.{size_iff}
use Rattle.bits.specs.Bits.{packed_length}
use Rattle.text.specs.Put.{Put}
use Rattle.text.proofs.Pieces.{put_started}
use Rattle.pbm.specs.declared.read.Header.{Header}
use Rattle.pbm.specs.declared.read.Header.TheVariants.{Sound, Unsound}
use Rattle.pbm.specs.Reading.{header_in}
use Rattle.pbm.specs.Theorems.{Headed}
use Rattle.pbm.proofs.Headed.{header_sound, header_short}
use Rattle.text.specs.Ascii.{ascii}
use Rattle.lines.specs.Put.{text_room}
use Rattle.compare.specs.declared.Refusal.{Refusal}
use Rattle.compare.specs.declared.Refusal.TheVariants.{BadHeader1, BadHeader2, UnequalSizes, ShortData1, ShortData2, BytesAfter1, BytesAfter2}
use Rattle.compare.specs.Refusals.{name, sizes_of, last_byte, Ends, ends_of}
use Rattle.compare.specs.Report.{row_in, end_of, report_ended, report_sized, report_text}
use Rattle.compare.specs.Run.{named, run_ended, run_sized}
use Rattle.compare.specs.Theorems.{RunReports}
use Rattle.compare.proofs.Heads.{is_raster, start_some, sizes_agree, same_header}
use Rattle.compare.proofs.FileEnds.{end_is}
use Rattle.compare.proofs.Fed.{feeds}

-- ---- a refusal's line fits, and is written whole
-- the longest has 42 bytes, and the buffer has room for any row's text
name_few : (r : Refusal) → length (ascii (name r)) ≤ 64
unfolding ascii
name_few BadHeader1 = omega arith
name_few BadHeader2 = omega arith
name_few UnequalSizes = omega arith
name_few ShortData1 = omega arith
name_few ShortData2 = omega arith
name_few BytesAfter1 = omega arith
name_few BytesAfter2 = omega arith

-- so it is put at the start of the buffer, and as many bytes are written
named_is : (r : Refusal) (space : List ℕ) → length space ≡ text_room → named r space ≡ ascii (name r)
named_is r space room =
    let t = ascii (name r) in
    ap (λ (p : Put). take p.end p.buffer) (put_started space t (omega (arith, name_few r))) ∙ take_at t (drop (length t) space) (length t) refl

-- ---- two bytes are enough to tell none, one and more
-- there is none of two exactly where there is none at all
none_tell : (s : List ℕ) → ltb (length (take 2 s)) 1 ≡ ltb (length s) 1
none_tell s =
    let n : ℕ = length (take 2 s) in
    let l = length-take 2 s in
    same_test (ltb n 1) (ltb (length s) 1) (λ e. let h = ltb-true n 1 e in lt-ltb (length s) 1 (omega arith)) (λ e. let h = ltb-true (length s) 1 e in lt-ltb n 1 (omega arith))

-- and more than one of two exactly where there is more than one
more_tell : (s : List ℕ) → ltb 1 (length (take 2 s)) ≡ ltb 1 (length s)
more_tell s =
    let n : ℕ = length (take 2 s) in
    let l = length-take 2 s in
    same_test (ltb 1 n) (ltb 1 (length s)) (λ e. let h = ltb-true 1 n e in lt-ltb 1 (length s) (omega arith)) (λ e. let h = ltb-true 1 (length s) e in lt-ltb 1 n (omega arith))

-- no other test is made of the ends
two_tell : (l m : List ℕ) → ends_of (length (take 2 l)) (length (take 2 m)) ≡ ends_of (length l) (length m)
two_tell l m = rw (none_tell l, none_tell m, more_tell l, more_tell m)

-- where neither film is refused each file has one byte from its film's last on
ends_whole : (t u : ℕ) → ends_of t u ≡ Ok record {} → (t ≡ 1) × (u ≡ 1)
ends_whole t u e = go (ltb t 1) (ltb u 1) (ltb 1 t) (ltb 1 u) refl refl refl refl e
  where
    told : (a b c d : Bool) → Ends
    told a b c d = cond a (Err ShortData1) (cond b (Err ShortData2) (cond c (Err BytesAfter1) (cond d (Err BytesAfter2) (Ok record {}))))

    go : (a b c d : Bool) → ltb t 1 ≡ a → ltb u 1 ≡ b → ltb 1 t ≡ c → ltb 1 u ≡ d → told a b c d ≡ Ok record {} → (t ≡ 1) × (u ≡ 1)
    go true b c d p q r s e = absurd (let z : ◌≡◌ {A = ℕ} 0 1 = cc in omega arith)
    go false true c d p q r s e = absurd (let z : ◌≡◌ {A = ℕ} 0 1 = cc in omega arith)
    go false false true d p q r s e = absurd (let z : ◌≡◌ {A = ℕ} 0 1 = cc in omega arith)
    go false false false true p q r s e = absurd (let z : ◌≡◌ {A = ℕ} 0 1 = cc in omega arith)
    go false false false false p q r s e = (omega (arith, ltb-false t 1 p, ltb-false 1 t r), omega (arith, ltb-false u 1 q, ltb-false 1 u s))

-- ---- two films of one size
module _ {f g : List ℕ} {columns rows start : ℕ} (h : Headed f columns rows start) (k : Headed g columns rows start) where
  abbrev w : ℕ
  w = packed_length columns

  -- no header has a size outside the limits, which the steps ask for
  sizes : (is_size columns ≡ true) × (is_size rows ≡ true)
  sizes = and_both (is_size columns) (is_size rows) (is_raster h)

  -- behind its header a film has all its rows
  whole : {e : List ℕ} → Headed e columns rows start → end_of e columns rows start ≡ 1 → rows * w ≤ length (drop start e)
  whole {e} k one = omega (arith, length-drop start e, end_is k, one, start_some k)

  -- its rows are found behind the header as in the whole file
  row_behind : (e : List ℕ) (j : ℕ) → row_in e columns rows start j ≡ take w (drop ((rows - 1 - j) * w) (drop start e))
  row_behind e j = ap (take w) (sym (drop-drop ((rows - 1 - j) * w) start e))

  -- once the ends have been told, a refusal is named, or the rows are fed
  ended : (space : List ℕ) → length space ≡ text_room → (e : Ends) → ends_of (end_of f columns rows start) (end_of g columns rows start) ≡ e →
      run_ended f g space columns rows start e ≡ report_text (report_ended f g columns rows start e)
  ended space room (Err r) e = named_is r space room
  ended space room (Ok _) e =
      let one = ends_whole (end_of f columns rows start) (end_of g columns rows start) e in
      feeds columns sizes.0 rows ((size_iff rows).0 sizes.1).few (drop start f) (drop start g) space room (whole h one.0) (whole k one.1)
      (row_in f columns rows start) (row_in g columns rows start) (λ j l. row_behind f j) (λ j l. row_behind g j)

  -- the ends are told from two bytes as from all
  sized : (space : List ℕ) → length space ≡ text_room → run_sized f g space (Ok (record { columns = columns; rows = rows; start = start })) ≡ report_text (report_sized f g (Ok (record { columns = columns; rows = rows; start = start })))
  sized space room =
      let e = ends_of (end_of f columns rows start) (end_of g columns rows start) in
      let last = last_byte columns rows start in
      ap (run_ended f g space columns rows start) (two_tell (drop last f) (drop last g)) ∙ ended space room e refl

-- ---- any two files
-- 15 bytes tell the headers, and each case of what they say gives its report
pub run_reports : RunReports
run_reports f g space room =
    ap₂ (λ (h k : Header). run_sized f g space (sizes_of h k)) (header_short f) (header_short g) ∙ go (header_in f) refl (header_in g) refl
  where
    agree : (c r n d s m : ℕ) → Headed f c r n → Headed g d s m → (t : Bool) → (eqb c d && eqb r s) ≡ t →
        run_sized f g space (cond t (Ok (record { columns = c; rows = r; start = n })) (Err UnequalSizes)) ≡ report_text (report_sized f g (cond t (Ok (record { columns = c; rows = r; start = n })) (Err UnequalSizes)))
    agree c r n d s m h k true e = sized h (same_header h k (sizes_agree c r d s e)) space room
    agree c r n d s m h k false e = named_is UnequalSizes space room

    go : (h : Header) → header_in f ≡ h → (k : Header) → header_in g ≡ k → run_sized f g space (sizes_of h k) ≡ report_text (report_sized f g (sizes_of h k))
    go Unsound p k q = named_is BadHeader1 space room
    go (Sound c r n) p Unsound q = named_is BadHeader2 space room
    go (Sound c r n) p (Sound d s m) q = agree c r n d s m ((header_sound f c r n).0 p) ((header_sound g d s m).0 q) (eqb c d && eqb r s) refl
