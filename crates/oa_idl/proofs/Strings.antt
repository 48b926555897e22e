-- The characters of a string, as a loop reads them.
use Rattle.std.proofs.Common.{◌≡◌, ℕ, ◌+◌, ◌<◌, ◌≤◌, Bool, true, false, List, [], ◌∷◌, ◌++◌, length, drop, get_or, Option, Some, None, refl}
use Rattle.std.proofs.Common.{sym, ap, ◌∙◌, append_assoc}
use Rattle.std.specs.Prelude.{◌==◌}
use Rattle.std.proofs.lemmas.List.{drop_more, drop_all, append-nil}
use Rattle.oa_idl.specs.promise.Words.{is_printable, is_escaped, with_character, characters_from}

-- The characters read so far, and the following ones.
abbrev pub after_front : List ℕ → Option (List ℕ) → Option (List ℕ)
after_front front None = None
after_front front (Some bs) = Some (front ++ bs)

one_taken : (front : List ℕ) (b : ℕ) (o : Option (List ℕ)) → after_front front (with_character b o) ≡ after_front (front ++ b ∷ []) o
one_taken front b None = refl
one_taken front b (Some bs) = ap (λ (cs : List ℕ). Some cs) (sym (append_assoc front (b ∷ []) bs))

pub escape_taken : (front bs : List ℕ) (n : ℕ) (marked : Bool) (total : Option (List ℕ)) → n < length bs → marked ≡ true
    → is_escaped (get_or bs n 0) ≡ true
    → after_front front (characters_from marked (drop n bs)) ≡ total
    → after_front (front ++ get_or bs n 0 ∷ []) (characters_from false (drop (n + 1) bs)) ≡ total
unfolding characters_from
escape_taken front bs n marked total lt on is so_far =
    let one : characters_from marked (drop n bs) ≡ with_character (get_or bs n 0) (characters_from false (drop (n + 1) bs)) =
    rw (drop_more bs n 0 lt, on, is) refl in
    sym (ap (after_front front) one ∙ one_taken front (get_or bs n 0) (characters_from false (drop (n + 1) bs))) ∙ so_far

pub escape_refused : (front bs : List ℕ) (n : ℕ) (marked : Bool) (total : Option (List ℕ)) → n < length bs → marked ≡ true
    → is_escaped (get_or bs n 0) ≡ false
    → after_front front (characters_from marked (drop n bs)) ≡ total → None ≡ total
unfolding characters_from
escape_refused front bs n marked total lt on is so_far =
    let one : characters_from marked (drop n bs) ≡ None = rw (drop_more bs n 0 lt, on, is) refl in
    sym (ap (after_front front) one) ∙ so_far

pub string_closed : (front bs : List ℕ) (n : ℕ) (marked : Bool) (total : Option (List ℕ)) → n < length bs → marked ≡ false
    → get_or bs n 0 ≡ 34
    → after_front front (characters_from marked (drop n bs)) ≡ total → Some front ≡ total
unfolding characters_from
string_closed front bs n marked total lt on is so_far =
    let one : characters_from marked (drop n bs) ≡ Some [] = rw (drop_more bs n 0 lt, on, is) refl in
    ap (λ (cs : List ℕ). Some cs) (sym (append-nil front)) ∙ sym (ap (after_front front) one) ∙ so_far

pub escape_begins : (front bs : List ℕ) (n : ℕ) (marked : Bool) (total : Option (List ℕ)) → n < length bs → marked ≡ false
    → get_or bs n 0 ≡ 92
    → after_front front (characters_from marked (drop n bs)) ≡ total → after_front front (characters_from true (drop (n + 1) bs)) ≡ total
unfolding characters_from
escape_begins front bs n marked total lt on is so_far =
    let one : characters_from marked (drop n bs) ≡ characters_from true (drop (n + 1) bs) = rw (drop_more bs n 0 lt, on, is) refl in
    sym (ap (after_front front) one) ∙ so_far

pub character_taken : (front bs : List ℕ) (n : ℕ) (marked : Bool) (total : Option (List ℕ)) → n < length bs → marked ≡ false
    → (get_or bs n 0 == 34) ≡ false → (get_or bs n 0 == 92) ≡ false → is_printable (get_or bs n 0) ≡ true
    → after_front front (characters_from marked (drop n bs)) ≡ total
    → after_front (front ++ get_or bs n 0 ∷ []) (characters_from false (drop (n + 1) bs)) ≡ total
unfolding characters_from
character_taken front bs n marked total lt on quote slash is so_far =
    let one : characters_from marked (drop n bs) ≡ with_character (get_or bs n 0) (characters_from false (drop (n + 1) bs)) =
    rw (drop_more bs n 0 lt, on, quote, slash, is) refl in
    sym (ap (after_front front) one ∙ one_taken front (get_or bs n 0) (characters_from false (drop (n + 1) bs))) ∙ so_far

pub character_refused : (front bs : List ℕ) (n : ℕ) (marked : Bool) (total : Option (List ℕ)) → n < length bs → marked ≡ false
    → (get_or bs n 0 == 34) ≡ false → (get_or bs n 0 == 92) ≡ false → is_printable (get_or bs n 0) ≡ false
    → after_front front (characters_from marked (drop n bs)) ≡ total → None ≡ total
unfolding characters_from
character_refused front bs n marked total lt on quote slash is so_far =
    let one : characters_from marked (drop n bs) ≡ None = rw (drop_more bs n 0 lt, on, quote, slash, is) refl in
    sym (ap (after_front front) one) ∙ so_far

pub characters_end : (front bs : List ℕ) (n : ℕ) (marked : Bool) (total : Option (List ℕ)) → length bs ≤ n
    → after_front front (characters_from marked (drop n bs)) ≡ total → None ≡ total
unfolding characters_from
characters_end front bs n true total le so_far =
    let one : characters_from true (drop n bs) ≡ None = rw (drop_all n bs le) refl in
    sym (ap (after_front front) one) ∙ so_far
characters_end front bs n false total le so_far =
    let one : characters_from false (drop n bs) ≡ None = rw (drop_all n bs le) refl in
    sym (ap (after_front front) one) ∙ so_far

-- The rules for the loop over characters.
pub ruleset character_steps = (escape_taken, escape_refused, string_closed, escape_begins, character_taken, character_refused, characters_end)
