-- Formats: which values have an image, the image of each as bytes, and how it is read. A format contains the proof
-- that reading accepts exactly the images, so whoever describes a format by the combinators below has the theorems of
-- its reader, too.
use Rattle.std.proofs.Common.{◌≡◌, ℕ, zero, suc, ◌+◌, ◌<◌, ◌≤◌, Bool, true, false, cond, ltb, List, [], ◌∷◌, ◌++◌}
use Rattle.std.proofs.Common.{length, take, drop, Option, Some, None, refl, sym, ap, subst, ◌∙◌, append_assoc, arith}
use Rattle.std.specs.List.{AllByRecursion, flat_map}
use Rattle.std.proofs.lemmas.Bool.{ltb-false, le-ltb}
use Rattle.std.proofs.lemmas.List.{take_at, drop_at, take-append-drop, length-append, length-take-le}
use Rattle.oa_ndr.specs.promise.Reading.{Cursor, at, moved, Decoder, and_then, bind, give, fail, bytes_at, many}

-- each a byte
abbrev pub IsBytes : List ℕ → Type 0
IsBytes bytes = AllByRecursion (λ b. b < 256) bytes

pub record Format (C : Type 0) : Type 1 where
  -- the values that have an image
  pub Is : C → Type 0
  -- the image
  pub image : C → List ℕ
  -- reading it
  pub read : Cursor → Option (C × Cursor)
  -- a value that was read has an image, which is the bytes that were read
  pub takes : (s : Cursor) (c : C) (t : Cursor) → AllByRecursion (λ b. b < 256) s.rest → read s ≡ Some (c, t)
      → Is c × (s.rest ≡ image c ++ t.rest) × AllByRecursion (λ b. b < 256) t.rest
  -- an image is read as its value, at any place and whatever follows
  pub again : (c : C) (place : ℕ) (rest : List ℕ) → Is c
      → (end : ℕ) × (read (at place (image c ++ rest)) ≡ Some (c, at end rest))

-- ---- what answers of readings say

abbrev pub some : {A : Type 0} → A → Option A
some x = Some x

pub same_content : {A : Type 0} (x y : A) → some x ≡ some y → x ≡ y
same_content x y e = cc

pub first_part : {A B : Type 0} (r : Option (A × Cursor)) (next : A → Decoder B) (y : B × Cursor)
    → and_then r next ≡ Some y → (x : A × Cursor) × (r ≡ Some x) × (next x.0 x.1 ≡ Some y)
first_part None next y e = absurd cc
first_part (Some x) next y e = (x, refl, e)

pub not_refused : {A : Type 0} (b : Bool) (x y : A) → cond b None (Some x) ≡ Some y → (b ≡ false) × (x ≡ y)
not_refused true x y e = absurd cc
not_refused false x y e = (refl, cc)

pub front_bytes : (xs ys : List ℕ) → IsBytes (xs ++ ys) → IsBytes xs
front_bytes [] ys all = tt
front_bytes (x ∷ xs) ys all = (all.0, front_bytes xs ys all.1)

pub back_bytes : (xs ys : List ℕ) → IsBytes (xs ++ ys) → IsBytes ys
back_bytes [] ys all = all
back_bytes (x ∷ xs) ys all = back_bytes xs ys all.1

-- ---- n bytes

unfoldable pub raw : ℕ → Format (List ℕ)
unfolding bytes_at
raw n = record {
  Is = λ xs. length xs ≡ n;
  image = λ xs. xs;
  read = bytes_at n;
  takes = λ s c t ok e.
      let g = not_refused (ltb (length s.rest) n) (take n s.rest, moved n s) (c, t) e in
      let le : n ≤ length s.rest = ltb-false _ _ g.0 in
      let whole : s.rest ≡ take n s.rest ++ drop n s.rest = sym (take-append-drop n s.rest) in
      subst (λ (y : List ℕ × Cursor). (length y.0 ≡ n) × (s.rest ≡ y.0 ++ y.1.rest) × IsBytes y.1.rest) g.1
      (length-take-le n s.rest le, whole, back_bytes (take n s.rest) (drop n s.rest) (subst IsBytes whole ok));
  again = λ c place rest h.
      let there : ltb (length (c ++ rest)) n ≡ false = le-ltb _ _ (omega (arith, length-append c rest)) in
      (place + n, rw (there, take_at c rest n h, drop_at c rest n h) refl);
}

-- no bytes
unfoldable pub nothing : Format (Unit {0})
unfolding give
nothing = record {
  Is = λ u. Unit {0};
  image = λ u. [];
  read = give tt;
  takes = λ s c t ok e. subst (λ (y : Unit {0} × Cursor). Unit {0} × (s.rest ≡ y.1.rest) × IsBytes y.1.rest)
      (same_content (tt, s) (c, t) e) (tt, refl, ok);
  again = λ c place rest h. (place, refl);
}

-- no value
unfoldable pub never : {C : Type 0} → Format C
unfolding fail
never = record {
  Is = λ c. ⊥;
  image = λ c. [];
  read = fail;
  takes = λ s c t ok e. absurd cc;
  again = λ c place rest h. absurd h;
}

-- ---- one value after another

-- what follows may depend on the first value
unfoldable pub next_by : {A B : Type 0} → Format A → (A → Format B) → Format (A × B)
unfolding bind give
next_by {A} {B} F G = record {
  Is = λ c. F.Is c.0 × (G c.0).Is c.1;
  image = λ c. F.image c.0 ++ (G c.0).image c.1;
  read = bind F.read (λ a. bind (G a).read (λ b. give (a, b)));
  takes = λ s c t ok e.
      let x = first_part (F.read s) (λ a. bind (G a).read (λ b. give (a, b))) (c, t) e in
      let one = F.takes s x.0.0 x.0.1 ok x.1 in
      let y = first_part ((G x.0.0).read x.0.1) (λ b. give (x.0.0, b)) (c, t) x.2 in
      let two = (G x.0.0).takes x.0.1 y.0.0 y.0.1 one.2 y.1 in
      subst (λ (z : (A × B) × Cursor). (F.Is z.0.0 × (G z.0.0).Is z.0.1)
      × (s.rest ≡ (F.image z.0.0 ++ (G z.0.0).image z.0.1) ++ z.1.rest)
      × IsBytes z.1.rest) (same_content ((x.0.0, y.0.0), y.0.1) (c, t) y.2) (
        (one.0, two.0),
        one.1 ∙ ap (λ (xs : List ℕ). F.image x.0.0 ++ xs) two.1
            ∙ sym (append_assoc (F.image x.0.0) ((G x.0.0).image y.0.0) y.0.1.rest),
        two.2,
      );
  again = λ c place rest h.
      let one = F.again c.0 place ((G c.0).image c.1 ++ rest) h.0 in
      let two = (G c.0).again c.1 one.0 rest h.1 in
      (two.0, rw (append_assoc (F.image c.0) ((G c.0).image c.1) rest, one.1, two.1) refl);
}

infixr 5 ◌▸◌
abbrev pub ◌▸◌ : {A B : Type 0} → Format A → Format B → Format (A × B)
F ▸ G = next_by F (λ a. G)

-- ---- values made of others

-- the values, of which P holds, that make gives of those of another format; back takes them apart again
unfoldable pub made_where : {A C : Type 0} (P : C → Type 0) (make : A → C) (back : C → A) (F : Format A)
    → ((a : A) → F.Is a → IsBytes (F.image a) → P (make a) × (back (make a) ≡ a))
    → ((c : C) → P c → F.Is (back c) × (make (back c) ≡ c)) → Format C
unfolding bind give
made_where {A} {C} P make back F there here = record {
  Is = P;
  image = λ c. F.image (back c);
  read = bind F.read (λ a. give (make a));
  takes = λ s c t ok e.
      let x = first_part (F.read s) (λ a. give (make a)) (c, t) e in
      let one = F.takes s x.0.0 x.0.1 ok x.1 in
      let made = there x.0.0 one.0 (front_bytes (F.image x.0.0) x.0.1.rest (subst IsBytes one.1 ok)) in
      subst (λ (z : C × Cursor). P z.0 × (s.rest ≡ F.image (back z.0) ++ z.1.rest) × IsBytes z.1.rest)
      (same_content (make x.0.0, x.0.1) (c, t) x.2)
      (made.0, one.1 ∙ ap (λ (a : A). F.image a ++ x.0.1.rest) (sym made.1), one.2);
  again = λ c place rest h.
      let whole = here c h in
      let one = F.again (back c) place rest whole.0 in
      (one.0, rw (one.1, whole.1) refl);
}

-- one value for each value of the other format
abbrev pub made : {A C : Type 0} (make : A → C) (back : C → A) (F : Format A) → ((a : A) → back (make a) ≡ a)
    → ((c : C) → make (back c) ≡ c) → Format C
made make back F there here =
    made_where (λ c. F.Is (back c)) make back F (λ a is ok. (subst F.Is (sym (there a)) is, there a))
    (λ c is. (is, here c))

-- the content of an option, if it has one
abbrev pub found : {A : Type 0} → Option A → Decoder A
found None s = None
found (Some x) s = Some (x, s)

pub found_there : {A : Type 0} (o : Option A) (s : Cursor) (c : A) (t : Cursor) → found o s ≡ Some (c, t)
    → (o ≡ Some c) × (s ≡ t)
found_there {A} None s c t e = absurd cc
found_there {A} (Some x) s c t e = let p = same_content (x, s) (c, t) e in
    (ap (λ (y : A × Cursor). some y.0) p, ap (λ (y : A × Cursor). y.1) p)

-- values that are written as codes; a code of no value is refused
unfoldable pub coded : {A C : Type 0} (P : C → Type 0) (of : A → Option C) (to : C → A) (F : Format A)
    → ((a : A) (c : C) → F.Is a → of a ≡ Some c → P c × (to c ≡ a))
    → ((c : C) → P c → F.Is (to c) × (of (to c) ≡ Some c)) → Format C
unfolding bind
coded {A} {C} P of to F there here = record {
  Is = P;
  image = λ c. F.image (to c);
  read = bind F.read (λ a. found (of a));
  takes = λ s c t ok e.
      let x = first_part (F.read s) (λ a. found (of a)) (c, t) e in
      let one = F.takes s x.0.0 x.0.1 ok x.1 in
      let f = found_there (of x.0.0) x.0.1 c t x.2 in
      let code = there x.0.0 c one.0 f.0 in
      subst (λ (y : Cursor). P c × (s.rest ≡ F.image (to c) ++ y.rest) × IsBytes y.rest) f.1
      (code.0, one.1 ∙ ap (λ (a : A). F.image a ++ x.0.1.rest) (sym code.1), one.2);
  again = λ c place rest h.
      let code = here c h in
      let one = F.again (to c) place rest code.0 in
      (one.0, rw (one.1, code.1) refl);
}

-- ---- several values of one kind

pub times_takes : {A : Type 0} (F : Format A) (n : ℕ) (s : Cursor) (xs : List A) (t : Cursor) → IsBytes s.rest
    → many F.read n s ≡ Some (xs, t)
    → ((length xs ≡ n) × AllByRecursion F.Is xs) × (s.rest ≡ flat_map F.image xs ++ t.rest) × IsBytes t.rest
unfolding many bind give
times_takes {A} F zero s xs t ok e =
    subst (λ (y : List A × Cursor). ((length y.0 ≡ 0) × AllByRecursion F.Is y.0)
    × (s.rest ≡ flat_map F.image y.0 ++ y.1.rest)
    × IsBytes y.1.rest) (same_content ([], s) (xs, t) e) ((refl, tt), refl, ok)
times_takes {A} F (suc n) s xs t ok e =
    let x = first_part (F.read s) (λ first. bind (many F.read n) (λ others. give (first ∷ others))) (xs, t) e in
    let one = F.takes s x.0.0 x.0.1 ok x.1 in
    let y = first_part (many F.read n x.0.1) (λ others. give (x.0.0 ∷ others)) (xs, t) x.2 in
    let two = times_takes F n x.0.1 y.0.0 y.0.1 one.2 y.1 in
    subst (λ (z : List A × Cursor). ((length z.0 ≡ suc n) × AllByRecursion F.Is z.0)
    × (s.rest ≡ flat_map F.image z.0 ++ z.1.rest)
    × IsBytes z.1.rest) (same_content (x.0.0 ∷ y.0.0, y.0.1) (xs, t) y.2) (
      (ap suc two.0.0, (one.0, two.0.1)),
      one.1 ∙ ap (λ (ys : List ℕ). F.image x.0.0 ++ ys) two.1
          ∙ sym (append_assoc (F.image x.0.0) (flat_map F.image y.0.0) y.0.1.rest),
      two.2,
    )

pub times_again : {A : Type 0} (F : Format A) (n : ℕ) (xs : List A) (place : ℕ) (rest : List ℕ) → length xs ≡ n
    → AllByRecursion F.Is xs
    → (end : ℕ) × (many F.read n (at place (flat_map F.image xs ++ rest)) ≡ Some (xs, at end rest))
unfolding many bind give
times_again F zero [] place rest len all = (place, refl)
times_again F zero (x ∷ xs) place rest len all = absurd (omega (arith, len))
times_again F (suc n) [] place rest len all = absurd (omega (arith, len))
times_again F (suc n) (x ∷ xs) place rest len all =
    let less : length xs ≡ n = omega (arith, len) in
    let one = F.again x place (flat_map F.image xs ++ rest) all.0 in
    let others = times_again F n xs one.0 rest less all.1 in
    (others.0, rw (append_assoc (F.image x) (flat_map F.image xs) rest, one.1, others.1) refl)

unfoldable pub times : {A : Type 0} → Format A → ℕ → Format (List A)
unfolding many bind give
times {A} F n = record {
  Is = λ xs. (length xs ≡ n) × AllByRecursion F.Is xs;
  image = flat_map F.image;
  read = many F.read n;
  takes = times_takes F n;
  again = λ xs place rest h. times_again F n xs place rest h.0 h.1;
}

-- a count, and then that many values
unfoldable pub counted : {A : Type 0} → Format ℕ → Format A → Format (List A)
unfolding next_by times
counted {A} N F =
    made_where (λ xs. N.Is (length xs) × AllByRecursion F.Is xs) (λ (p : ℕ × List A). p.1) (λ xs. (length xs, xs))
    (next_by N (times F))
    (λ p is ok. ((subst N.Is (sym is.1.0) is.0, is.1.1), ap (λ (n : ℕ). with_count n p.1) is.1.0))
    (λ xs h. ((h.0, (refl, h.1)), refl))
  where
    with_count : ℕ → List A → ℕ × List A
    with_count n xs = (n, xs)

-- ---- tests

abbrev pub passing : {C : Type 0} → (C → Bool) → C → Option C
passing test c = cond (test c) (Some c) None

pub passed : {C : Type 0} (b : Bool) (c d : C) → cond b (Some c) None ≡ Some d → (b ≡ true) × (c ≡ d)
passed true c d e = (refl, same_content c d e)
passed false c d e = absurd cc

-- the values that pass a test; others are refused
unfoldable pub only : {C : Type 0} → (C → Bool) → Format C → Format C
only {C} test F = coded (λ c. F.Is c × (test c ≡ true)) (passing test) (λ c. c) F
    (λ a c is e. let p = passed (test a) a c e in (subst (λ (x : C). F.Is x × (test x ≡ true)) p.1 (is, p.0), sym p.1))
    (λ c h. (h.0, rw h.1 refl))

-- ---- values of several kinds: a tag, and the content after it

-- the values with the tag t, which `make` makes of a content
unfoldable pub case : {A C T : Type 0} (tag : C → T) (t : T) (make : A → C) (content : C → A) (F : Format A)
    → ((a : A) → F.Is a → tag (make a) ≡ t) → ((a : A) → content (make a) ≡ a)
    → ((c : C) → tag c ≡ t → make (content c) ≡ c) → Format C
unfolding bind give
case {A} {C} {T} tag t make content F same there here = record {
  Is = λ c. (tag c ≡ t) × F.Is (content c);
  image = λ c. F.image (content c);
  read = bind F.read (λ a. give (make a));
  takes = λ s c u ok e.
      let x = first_part (F.read s) (λ a. give (make a)) (c, u) e in
      let one = F.takes s x.0.0 x.0.1 ok x.1 in
      let back = sym (there x.0.0) in
      subst (λ (z : C × Cursor). ((tag z.0 ≡ t) × F.Is (content z.0)) × (s.rest ≡ F.image (content z.0) ++ z.1.rest)
      × IsBytes z.1.rest)
      (same_content (make x.0.0, x.0.1) (c, u) x.2)
      ((same x.0.0 one.0, subst F.Is back one.0), one.1 ∙ ap (λ (a : A). F.image a ++ x.0.1.rest) back, one.2);
  again = λ c place rest h.
      let one = F.again (content c) place rest h.1 in
      (one.0, rw (one.1, here c h.0) refl);
}

-- a tag, and then the values that have it
unfoldable pub tagged : {T C : Type 0} (tag : C → T) (F : Format T) (G : T → Format C)
    → ((t : T) (c : C) → (G t).Is c → tag c ≡ t) → Format C
unfolding bind
tagged {T} {C} tag F G agree = record {
  Is = λ c. F.Is (tag c) × (G (tag c)).Is c;
  image = λ c. F.image (tag c) ++ (G (tag c)).image c;
  read = bind F.read (λ t. (G t).read);
  takes = λ s c u ok e.
      let x = first_part (F.read s) (λ t. (G t).read) (c, u) e in
      let one = F.takes s x.0.0 x.0.1 ok x.1 in
      let two = (G x.0.0).takes x.0.1 c u one.2 x.2 in
      let t : x.0.0 ≡ tag c = sym (agree x.0.0 c two.0) in (
        (subst F.Is t one.0, subst (λ (k : T). (G k).Is c) t two.0),
        one.1 ∙ ap (λ (xs : List ℕ). F.image x.0.0 ++ xs) two.1
            ∙ sym (append_assoc (F.image x.0.0) ((G x.0.0).image c) u.rest)
            ∙ ap (λ (k : T). (F.image k ++ (G k).image c) ++ u.rest) t,
        two.2,
      );
  again = λ c place rest h.
      let one = F.again (tag c) place ((G (tag c)).image c ++ rest) h.0 in
      let two = (G (tag c)).again c one.0 rest h.1 in
      (two.0, rw (append_assoc (F.image (tag c)) ((G (tag c)).image c) rest, one.1, two.1) refl);
}

-- one of two formats
abbrev pub pick : {C : Type 0} → Bool → Format C → Format C → Format C
pick true F G = F
pick false F G = G

pub picked : {C : Type 0} (b : Bool) (F G : Format C) (c : C) (P : Type 0) → (b ≡ true → F.Is c → P)
    → (b ≡ false → G.Is c → P) → (pick b F G).Is c → P
picked true F G c P one other h = one refl h
picked false F G c P one other h = other refl h

-- ---- lists in an order

-- each before the next
abbrev pub rising : {A : Type 0} → (A → A → Bool) → List A → Bool
rising before [] = true
rising before (x ∷ []) = true
rising before (x ∷ y ∷ xs) = cond (before x y) (rising before (y ∷ xs)) false
