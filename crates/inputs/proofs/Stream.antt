-- Requests one after another; what is read and written in parts; and the bytes of a list.
use Rattle.std.proofs.Common.{ℕ, suc, ◌<◌, inl, inr, subst, ◌+◌, ◌-◌, ◌*◌, ◌≤◌, ◌≡◌, sym, ap, ◌∙◌, List, ◌++◌, length, take, drop, append_assoc, append-nil, take_at, take_all, length-take, length-drop, Option, Some, None, Result, Ok, Err, arith}
use Rattle.std.proofs.Math.Seq.{take-append-add}
use Rattle.std.proofs.lemmas.List.{take-append-le}
use Rattle.std.specs.Prelude.{IfSome, OnOk}
use Rattle.std.specs.Io.KnownBytes.{Consumes, Appends, IsAtEnd}
use Rattle.wire.specs.Write.{word_bytes, encoded}
use Rattle.inputs.specs.declared.requests.Leave.{Leave}
use Rattle.inputs.specs.Stream.{Served}
use Rattle.wire.proofs.Laws.{encoded_all}
use Rattle.wire.proofs.Words.{words_length}

-- requests of which m are answered at most, where i have been
module _ {F : Type 0} (step : F → Result (Unit {0}) Leave → F → Type 0) (m i : ℕ) where
  pub served_more : (f g : F) (r : Result (Unit {0}) Leave) (u : Unit {0}) → i < m → step f r g → r ≡ Ok u → Served step (m - (i + 1)) g → Served step (m - i) f
  unfolding Served
  served_more f g r u h s e k =
      let n : m - i ≡ suc (m - (i + 1)) = omega arith in
      rw n (inl (g, (subst (λ (x : Result (Unit {0}) Leave). step f x g) e s, k)))

  pub served_left : (f g : F) (r : Result (Unit {0}) Leave) (why : Leave) → i < m → step f r g → r ≡ Err why → Served step (m - i) f
  unfolding Served
  served_left f g r why h s e =
      let n : m - i ≡ suc (m - (i + 1)) = omega arith in
      rw n (inr (why, (g, subst (λ (x : Result (Unit {0}) Leave). step f x g) e s)))

  pub served_all : (f : F) → m ≤ i → Served step (m - i) f
  unfolding Served
  served_all f h =
      let n : m - i ≡ 0 = omega arith in
      rw n tt

pub both_read : (a b c : Option (List ℕ)) (x y : List ℕ) → Consumes a b x → Consumes b c y → Consumes a c (x ++ y)
both_read None b c x y h k = tt
both_read (Some u) None c x y h k = absurd h
both_read (Some u) (Some v) None x y h k = absurd k
both_read (Some u) (Some v) (Some w) x y h k = h ∙ ap (λ (l : List ℕ). x ++ l) k ∙ sym (append_assoc x y w)

pub both_written : (a b c : Option (List ℕ)) (x y : List ℕ) → Appends a b x → Appends b c y → Appends a c (x ++ y)
both_written None b c x y h k = tt
both_written (Some u) None c x y h k = absurd h
both_written (Some u) (Some v) None x y h k = absurd k
both_written (Some u) (Some v) (Some w) x y h k = k ∙ ap (λ (l : List ℕ). l ++ y) h ∙ append_assoc u x y

-- where the last part is written
pub last_written : {A E : Type 0} (r : Result A E) (a b c : Option (List ℕ)) (x y : List ℕ) → Appends a b x → OnOk r (Appends b c y) → OnOk r (Appends a c (x ++ y))
last_written (Ok v) a b c x y h k = both_written a b c x y h k
last_written (Err e) a b c x y h k = tt

-- a part read behind another
pub behind : (xs ys zs : List ℕ) (a n : ℕ) → a ≤ length xs → n ≤ length ys → take (a + n) (take a xs ++ (ys ++ zs)) ≡ take a xs ++ take n ys
behind xs ys zs a n h k =
    let e : length (take a xs) ≡ a = omega (arith, length-take a xs) in
    ap (λ (m : ℕ). take (m + n) (take a xs ++ (ys ++ zs))) (sym e)
    ∙ take-append-add (take a xs) (ys ++ zs) n
    ∙ ap (λ (l : List ℕ). take a xs ++ l) (take-append-le n ys zs k)

-- what is left of a buffer
pub left_length : (xs : List ℕ) (a : ℕ) → length (take (length xs - a) (drop a xs)) ≡ length xs - a
left_length xs a = omega (arith, length-take (length xs - a) (drop a xs), length-drop a xs)

-- all that there was
pub all_read : (a b : Option (List ℕ)) (x : List ℕ) → Consumes a b x → IsAtEnd b → IfSome a (λ l. length l ≡ length x)
all_read None b x h e = tt
all_read (Some u) None x h e = absurd h
all_read (Some u) (Some v) x h e = ap length (h ∙ ap (λ (l : List ℕ). x ++ l) e ∙ append-nil x)

-- the bytes of a list, in a buffer with room for them
pub listed : (l b : List ℕ) → 2 * length l ≤ length b → take (2 * length l) (encoded l (length l) b) ≡ word_bytes l
listed l b h =
    let m = 2 * length l in
    ap (take m) (encoded_all l (length l) b (omega arith) h)
    ∙ ap (λ (k : List ℕ). take m (word_bytes k ++ drop m b)) (take_all (length l) l (omega arith))
    ∙ take_at (word_bytes l) (drop m b) m (words_length l)
