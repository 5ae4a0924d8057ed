-- A text looked through for the error's number, place by place: what is behind a place has the rest of the message.
use Rattle.std.proofs.Common.{ℕ, Bool, ◌+◌, ◌-◌, ◌<◌, ◌≤◌, ◌≡◌, true, false, refl, sym, ap, ◌∙◌, List, [], ◌∷◌, ◌++◌, length, take, drop, get_or, append_assoc, append-nil, add-one, drop-cons, take-suc, take_all, length-drop, arith}
use lib.ListN.{drop_of_length-le}
use Rattle.tell.specs.Message.{is_number, message_of}

-- the message, of which so many bytes are told apart from the number
abbrev pub seen : List ℕ → ℕ → List ℕ
seen text i = take i text ++ message_of (drop i text)

at_number : (b : ℕ) (l : List ℕ) → is_number (b ∷ l) ≡ true → message_of (b ∷ l) ≡ []
unfolding message_of
at_number b l h = rw h refl

before_number : (b : ℕ) (l : List ℕ) → is_number (b ∷ l) ≡ false → message_of (b ∷ l) ≡ b ∷ message_of l
unfolding message_of
before_number b l h = rw h refl

none_left : message_of [] ≡ []
unfolding message_of
none_left = refl

-- what a look at the text behind a place says
pub looked : (text : List ℕ) (i : ℕ) {r b : Bool} → r ≡ is_number (take (length text - i) (drop i text)) → r ≡ b → is_number (drop i text) ≡ b
looked text i h k = ap is_number (sym (take_all (length text - i) (drop i text) (omega (arith, length-drop i text)))) ∙ sym h ∙ k

-- a step, where no number stands
pub past : (text : List ℕ) (i : ℕ) → i < length text → is_number (drop i text) ≡ false → seen text (i + 1) ≡ seen text i
past text i h clear =
    let e = drop-cons text i 0 h in
    let b = get_or text i 0 in
    let step : message_of (drop i text) ≡ b ∷ message_of (drop (i + 1) text) =
    ap message_of (e ∙ ap (λ k. b ∷ drop k text) (sym (add-one i)))
    ∙ before_number b (drop (i + 1) text) (ap is_number (sym (e ∙ ap (λ k. b ∷ drop k text) (sym (add-one i)))) ∙ clear) in
    ap (λ k. take k text ++ message_of (drop (i + 1) text)) (add-one i)
    ∙ ap (λ (l : List ℕ). l ++ message_of (drop (i + 1) text)) (take-suc text i 0 h)
    ∙ append_assoc (take i text) (b ∷ []) (message_of (drop (i + 1) text))
    ∙ ap (λ (l : List ℕ). take i text ++ l) (sym step)

-- where it stands
pub found : (text : List ℕ) (i : ℕ) → i < length text → is_number (drop i text) ≡ true → seen text i ≡ take i text
found text i h there =
    let e = drop-cons text i 0 h in
    let b = get_or text i 0 in
    let stop : message_of (drop i text) ≡ [] = ap message_of e ∙ at_number b _ (ap is_number (sym e) ∙ there) in
    ap (λ (l : List ℕ). take i text ++ l) stop ∙ append-nil (take i text)

-- at the end of a text that has none
pub whole : (text : List ℕ) (i : ℕ) → length text ≤ i → seen text i ≡ text
whole text i h =
    ap (λ (l : List ℕ). take i text ++ message_of l) (drop_of_length-le text {i = i} h)
    ∙ ap (λ (l : List ℕ). take i text ++ l) none_left
    ∙ append-nil (take i text)
    ∙ take_all i text h
