-- Reading a list, as a loop does.
use Rattle.std.proofs.Common.{◌≡◌, ℕ, zero, suc, ◌+◌, ◌-◌, ◌<◌, ◌≤◌, Bool, true, false, cond, List, [], ◌∷◌, ◌++◌, Result, Err, refl, sym}
use Rattle.std.proofs.Common.{ap, subst, ◌∙◌, append_assoc, arith}
use Rattle.std.specs.Prelude.{◌||◌, codes}
use Rattle.std.specs.Global.{Vec}
use Rattle.std.proofs.lemmas.List.{append-nil}
use Rattle.oa_idl.specs.declared.stop.Stop.{Stop}
use Rattle.oa_idl.specs.declared.stop.Stop.TheVariants.{Syntax, Memory}
use Rattle.oa_idl.specs.declared.stop.Stop.TheVariants as stops
use Rattle.oa_idl.specs.declared.items.Item.{Item}
use Rattle.oa_idl.specs.declared.items.Item.TheVariants as items
use Rattle.oa_idl.specs.declared.seen.EntriesSeen.{EntriesSeen}
use Rattle.oa_idl.specs.declared.seen.ItemsSeen.{ItemsSeen}
use Rattle.oa_idl.specs.promise.Forms.{Word, nowhere}
use Rattle.oa_idl.specs.promise.Words.{passes}
use Rattle.oa_idl.specs.declared.parts.MethodKind.{MethodKind}
use Rattle.oa_idl.specs.promise.Grammar.{no_items, items_grow, may_end, LibraryContent, semicolon_after, elements_grow}
use Rattle.oa_idl.specs.promise.Grammar.{items_in}
use Rattle.oa_idl.specs.promise.Grammar.LibraryContent.{Import, OfItem}
use Rattle.oa_idl.specs.GrammarReading.{last_entry_at, last_parameter_at, closing_at, import_at, item_at, content_at, elements_within}
use Rattle.oa_idl.specs.Reading.{ReadStep, Parser, and_then, bind, give, fail, done, heads, choose, require, later_words, this_at, perhaps_at}
use Rattle.oa_idl.specs.Reading.{until, gather, ReadsWords}
use Rattle.oa_idl.specs.Reading.ReadStep.{Got, Stuck}

-- The items read so far, followed by those still to read.
abbrev pub with_front : {A B : Type 0} → List A → ReadStep (List A × B) → ReadStep (List A × B)
with_front front (Got r left) = Got (front ++ r.0, r.1) left
with_front front (Stuck why left) = Stuck why left

abbrev got_list : {A B : Type 0} → List Word → B → List A → ReadStep (List A × B)
got_list left b xs = Got (xs, b) left

regroup : {A B : Type 0} (front : List A) (x : A) (o : ReadStep (List A × B))
    → with_front front (and_then o (λ r. give (x ∷ r.0, r.1))) ≡ with_front (front ++ x ∷ []) o
unfolding give
regroup front x (Got r left) = ap (got_list left r.1) (sym (append_assoc front (x ∷ []) r.0))
regroup front x (Stuck why left) = refl

pub until_goes_on : {S A B : Type 0} (test : Word → Bool) (apart : A → Word → Bool) (item : S → Parser A) (grow : S → A → S)
    (last : S → Parser B) (front : List A) (n i : ℕ) (state : S) (s t u : List Word) (x : A) (total : ReadStep (List A × B)) → i < n
    → heads test s ≡ false → item state s ≡ Got x t
    → u ≡ cond (heads (apart x) t) (later_words t) t → with_front front (until test apart item grow last (n - i) state s) ≡ total
    → with_front (front ++ x ∷ []) (until test apart item grow last (n - (i + 1)) (grow state x) u) ≡ total
unfolding until choose bind perhaps_at
until_goes_on test apart item grow last front n i state s t u x total lt going h is so_far =
    let k : n - i ≡ suc (n - (i + 1)) = omega arith in
    let one : with_front front (until test apart item grow last (n - i) state s) ≡ with_front (front ++ x ∷ [])
    (until test apart item grow last (n - (i + 1)) (grow state x) u) =
    rw (k, going, h, is) (regroup front x (until test apart item grow last (n - (i + 1)) (grow state x) (cond (heads (apart x) t) (later_words t) t))) in
    sym one ∙ so_far

-- As above, without a word between the items.
pub plain_goes_on : {S A B : Type 0} (test : Word → Bool) (item : S → Parser A) (grow : S → A → S) (last : S → Parser B) (front : List A)
    (n i : ℕ) (state : S) (s t : List Word) (x : A) (total : ReadStep (List A × B)) → i < n → heads test s ≡ false → item state s ≡ Got x t
    → with_front front (until test nowhere item grow last (n - i) state s) ≡ total
    → with_front (front ++ x ∷ []) (until test nowhere item grow last (n - (i + 1)) (grow state x) t) ≡ total
plain_goes_on test item grow last front n i state s t x total lt going h so_far =
    until_goes_on test nowhere item grow last front n i state s t t x total lt going h (same x t) so_far
  where
    same : {A : Type 0} (x : A) (t : List Word) → t ≡ cond (heads (nowhere x) t) (later_words t) t
    same x [] = refl
    same x (w ∷ t) = refl

pub until_ends : {S A B : Type 0} (test : Word → Bool) (apart : A → Word → Bool) (item : S → Parser A) (grow : S → A → S)
    (last : S → Parser B) (front : List A) (n i : ℕ) (state : S) (b : B) (s u : List Word) (total : ReadStep (List A × B)) → i < n
    → heads test s ≡ true → last state s ≡ Got b u
    → with_front front (until test apart item grow last (n - i) state s) ≡ total → total ≡ Got (front, b) u
unfolding until choose bind give
until_ends test apart item grow last front n i state b s u total lt closed h so_far =
    let k : n - i ≡ suc (n - (i + 1)) = omega arith in
    let one : with_front front (until test apart item grow last (n - i) state s) ≡ Got (front, b) u =
    rw (k, closed, h) (ap (got_list u b) (append-nil front)) in
    sym so_far ∙ one

-- the end is a word of its own
pub until_ends_at : {S A : Type 0} (test : Word → Bool) (apart : A → Word → Bool) (item : S → Parser A) (grow : S → A → S)
    (front : List A) (n i : ℕ) (state : S) (s : List Word) (total : ReadStep (List A × Unit {0})) → i < n → heads test s ≡ true
    → with_front front (until test apart item grow (λ _. this_at test) (n - i) state s) ≡ total → total ≡ Got (front, done) (later_words s)
unfolding this_at
until_ends_at test apart item grow front n i state s total lt closed so_far =
    let h : this_at test s ≡ Got done (later_words s) = rw closed refl in
    until_ends test apart item grow (λ _. this_at test) front n i state done s (later_words s) total lt closed h so_far

-- The end is not allowed yet.
pub until_early : {S A B : Type 0} (test : Word → Bool) (apart : A → Word → Bool) (item : S → Parser A) (grow : S → A → S)
    (last : S → Parser B) (front : List A) (n i : ℕ) (state : S) (s u : List Word) (why : Stop) (total : ReadStep (List A × B)) → i < n
    → heads test s ≡ true → last state s ≡ Stuck why u
    → with_front front (until test apart item grow last (n - i) state s) ≡ total → total ≡ Stuck why u
unfolding until choose bind
until_early test apart item grow last front n i state s u why total lt closed h so_far =
    let k : n - i ≡ suc (n - (i + 1)) = omega arith in
    let one : with_front front (until test apart item grow last (n - i) state s) ≡ Stuck why u = rw (k, closed, h) refl in
    sym so_far ∙ one

pub until_stops : {S A B : Type 0} (test : Word → Bool) (apart : A → Word → Bool) (item : S → Parser A) (grow : S → A → S)
    (last : S → Parser B) (front : List A) (n i : ℕ) (state : S) (s t : List Word) (why : Stop) (total : ReadStep (List A × B)) → i < n
    → heads test s ≡ false → item state s ≡ Stuck why t
    → with_front front (until test apart item grow last (n - i) state s) ≡ total → total ≡ Stuck why t
unfolding until choose bind
until_stops test apart item grow last front n i state s t why total lt going h so_far =
    let k : n - i ≡ suc (n - (i + 1)) = omega arith in
    let one : with_front front (until test apart item grow last (n - i) state s) ≡ Stuck why t = rw (k, going, h) refl in
    sym so_far ∙ one

pub until_out : {S A B : Type 0} (test : Word → Bool) (apart : A → Word → Bool) (item : S → Parser A) (grow : S → A → S)
    (last : S → Parser B) (front : List A) (n i : ℕ) (state : S) (s : List Word) (total : ReadStep (List A × B)) → n ≤ i
    → with_front front (until test apart item grow last (n - i) state s) ≡ total → total ≡ Stuck Syntax s
unfolding until fail
until_out test apart item grow last front n i state s total le so_far =
    let k : n - i ≡ 0 = omega arith in
    let one : with_front front (until test apart item grow last (n - i) state s) ≡ Stuck Syntax s = rw k refl in
    sym so_far ∙ one

pub until_err : {S A : Type 0} (test : Word → Bool) (apart : A → Word → Bool) (item : S → Parser A) (grow : S → A → S)
    (last : S → Parser (Unit {0})) (e : Stop) (front : List A) (n i : ℕ) (state : S) (s t : List Word) (total : ReadStep (List A × Unit {0}))
    → i < n → heads test s ≡ false → ReadsWords {X = A} (λ x. x) (Err e) t (item state s)
    → with_front front (until test apart item grow last (n - i) state s) ≡ total
    → ReadsWords {X = Vec A} (λ v. (v.items, done)) (Err e) t total
until_err test apart item grow last Syntax front n i state s t total lt going h so_far =
    until_stops test apart item grow last front n i state s t Syntax total lt going h so_far
until_err test apart item grow last (stops.Limit l) front n i state s t total lt going h so_far = until_stops test apart item grow last front n i state s t
    (stops.Limit l) total lt going h so_far
until_err test apart item grow last Memory front n i state s t total lt going h so_far = tt

-- As above for two sections, if the end determines the second.
pub properties_err : {A C : Type 0} (test : Word → Bool) (apart : A → Word → Bool) (item : ℕ → Parser A) (grow : ℕ → A → ℕ)
    (last : ℕ → Parser (List C)) (e : Stop) (front : List A) (n i state : ℕ) (s t : List Word) (total : ReadStep (List A × List C)) → i < n
    → heads test s ≡ false → ReadsWords {X = A} (λ x. x) (Err e) t (item state s)
    → with_front front (until test apart item grow last (n - i) state s) ≡ total
    → ReadsWords {X = Vec A × Vec C} (λ v. (v.0.items, v.1.items)) (Err e) t total
properties_err test apart item grow last Syntax front n i state s t total lt going h so_far =
    until_stops test apart item grow last front n i state s t Syntax total lt going h so_far
properties_err test apart item grow last (stops.Limit l) front n i state s t total lt going h so_far = until_stops test apart item grow last front n i state s t
    (stops.Limit l) total lt going h so_far
properties_err test apart item grow last Memory front n i state s t total lt going h so_far = tt

pub properties_end_err : {A C : Type 0} (test : Word → Bool) (apart : A → Word → Bool) (item : ℕ → Parser A) (grow : ℕ → A → ℕ)
    (last : ℕ → Parser (List C)) (e : Stop) (front : List A) (n i state : ℕ) (s t : List Word) (total : ReadStep (List A × List C)) → i < n
    → heads test s ≡ true → ReadsWords {X = Vec C} (λ v. v.items) (Err e) t (last state s)
    → with_front front (until test apart item grow last (n - i) state s) ≡ total
    → ReadsWords {X = Vec A × Vec C} (λ v. (v.0.items, v.1.items)) (Err e) t total
properties_end_err test apart item grow last Syntax front n i state s t total lt closed h so_far =
    until_early test apart item grow last front n i state s t Syntax total lt closed h so_far
properties_end_err test apart item grow last (stops.Limit l) front n i state s t total lt closed h so_far =
    until_early test apart item grow last front n i state s t (stops.Limit l) total lt closed h so_far
properties_end_err test apart item grow last Memory front n i state s t total lt closed h so_far = tt

-- ---- If only the state is kept.

some_more : (n : ℕ) → (n ≡ 0 → ⊥) → n ≡ suc (n - 1)
some_more n h = let k : 0 < n = positive n h in omega (arith, k)
  where
    positive : (n : ℕ) → (n ≡ 0 → ⊥) → 0 < n
    positive zero h = absurd (h refl)
    positive (suc n) h = omega arith

pub gather_goes_on : {S B : Type 0} (test : Word → Bool) (step : S → Parser S) (last : S → Parser B) (n : ℕ) (state next : S)
    (s t u : List Word) (result : Result B Stop) → (n ≡ 0 → ⊥) → heads test s ≡ false → step state s ≡ Got next t
    → ReadsWords {X = B} (λ x. x) result u (gather test step last (n - 1) next t)
    → ReadsWords {X = B} (λ x. x) result u (gather test step last n state s)
unfolding gather choose bind
gather_goes_on {S} {B} test step last n state next s t u result some going h a =
    subst (ReadsWords (λ x. x) result u) (sym (ap (λ (k : ℕ). gather test step last k state s) (some_more n some) ∙ one (n - 1))) a
  where
    one : (m : ℕ) → gather test step last (suc m) state s ≡ gather test step last m next t
    one m = rw (going, h) refl

pub gather_ends : {S B : Type 0} (test : Word → Bool) (step : S → Parser S) (last : S → Parser B) (n : ℕ) (state : S) (s t : List Word)
    (result : Result B Stop) → (n ≡ 0 → ⊥) → heads test s ≡ true → ReadsWords {X = B} (λ x. x) result t (last state s)
    → ReadsWords {X = B} (λ x. x) result t (gather test step last n state s)
unfolding gather choose
gather_ends test step last n state s t result some closed h =
    let one : gather test step last n state s ≡ last state s = rw (some_more n some, closed) refl in
    subst (ReadsWords (λ x. x) result t) (sym one) h

gather_stops : {S B : Type 0} (test : Word → Bool) (step : S → Parser S) (last : S → Parser B) (n : ℕ) (state : S) (s t : List Word)
    (why : Stop) → (n ≡ 0 → ⊥) → heads test s ≡ false → step state s ≡ Stuck why t
    → gather test step last n state s ≡ Stuck why t
unfolding gather choose bind
gather_stops test step last n state s t why some going h = rw (some_more n some, going, h) refl

pub gather_err : {S B : Type 0} (test : Word → Bool) (step : S → Parser S) (last : S → Parser B) (e : Stop) (n : ℕ) (state : S)
    (s t : List Word) → (n ≡ 0 → ⊥) → heads test s ≡ false → ReadsWords {X = S} (λ x. x) (Err e) t (step state s)
    → ReadsWords {X = B} (λ x. x) (Err e) t (gather test step last n state s)
gather_err test step last Syntax n state s t some going h = gather_stops test step last n state s t Syntax some going h
gather_err test step last (stops.Limit l) n state s t some going h = gather_stops test step last n state s t (stops.Limit l) some going h
gather_err test step last Memory n state s t some going h = tt

-- The rules for a list of attributes.
pub ruleset gathering = (gather_goes_on, gather_ends, gather_err)

-- ---- the states of this grammar's lists

pub entries_early : (s : EntriesSeen) (words : List Word) → s.some ≡ false → last_entry_at s words ≡ Stuck Syntax words
unfolding require
entries_early s words is = rw is refl

pub entries_end : (s : EntriesSeen) (words : List Word) → s.some ≡ true → heads (passes (codes "}")) words ≡ true
    → last_entry_at s words ≡ Got done (later_words words)
unfolding require this_at
entries_end s words is closed = rw (is, closed) refl

pub parameters_early : (k : MethodKind) (n : ℕ) (words : List Word) → may_end k n ≡ false → last_parameter_at k n words ≡ Stuck Syntax words
unfolding require
parameters_early k n words is = rw is refl

pub parameters_end : (k : MethodKind) (n : ℕ) (words : List Word) → may_end k n ≡ true → heads (passes (codes ")")) words ≡ true
    → last_parameter_at k n words ≡ Got done (later_words words)
unfolding require this_at
parameters_end k n words is closed = rw (is, closed) refl

pub either_heads : (a b : Word → Bool) (words : List Word) → heads (λ w. a w || b w) words ≡ (heads a words || heads b words)
either_heads a b [] = refl
either_heads a b (w ∷ words) = refl

-- ---- imports and items

abbrev pub so_far_read : ℕ → ItemsSeen → List Word → ReadStep (List LibraryContent × Unit {0})
so_far_read n s words = until (passes (codes "}")) semicolon_after content_at elements_grow closing_at n s words

-- The items among the elements read so far.
pub record ItemsRead (xs : List Item) (n : ℕ) (s : ItemsSeen) (words : List Word) (total : ReadStep (List LibraryContent × Unit {0})) : Type 0 where
  pub front : List LibraryContent
  pub are : items_in front ≡ xs
  pub so_far : with_front front (so_far_read n s words) ≡ total

abbrev items_alone : List LibraryContent × Unit {0} → Parser (List Item)
items_alone es = give (items_in es.0)

more_items : (es : List LibraryContent) (x : Item) → items_in (es ++ OfItem x ∷ []) ≡ items_in es ++ x ∷ []
more_items [] x = refl
more_items (Import ∷ es) x = more_items es x
more_items (OfItem y ∷ es) x = ap (λ (xs : List Item). y ∷ xs) (more_items es x)

more_imports : (es : List LibraryContent) → items_in (es ++ Import ∷ []) ≡ items_in es
more_imports [] = refl
more_imports (Import ∷ es) = more_imports es
more_imports (OfItem y ∷ es) = ap (λ (xs : List Item). y ∷ xs) (more_imports es)

no_word_after : (t : List Word) → t ≡ cond (heads (semicolon_after Import) t) (later_words t) t
no_word_after [] = refl
no_word_after (w ∷ t) = refl

word_after : (x : Item) (t : List Word) → cond (heads (passes (codes ";")) t) (later_words t) t ≡ cond (heads (semicolon_after (OfItem x)) t)
    (later_words t) t
word_after x [] = refl
word_after x (w ∷ t) = refl

at_item : (s : ItemsSeen) (words t : List Word) (x : Item) → heads (passes (codes "importlib")) words ≡ false → item_at s words ≡ Got x t
    → content_at s words ≡ Got (OfItem x) t
unfolding content_at choose bind give
at_item s words t x is h = rw (is, h) refl

at_import : (s : ItemsSeen) (words t : List Word) → heads (passes (codes "importlib")) words ≡ true → import_at words ≡ Got done t
    → content_at s words ≡ Got Import t
unfolding content_at choose bind give
at_import s words t is h = rw (is, h) refl

pub items_go_on : (xs : List Item) (n i : ℕ) (s : ItemsSeen) (words t u : List Word) (x : Item) (total : ReadStep (List LibraryContent × Unit {0}))
    → i < n → heads (passes (codes "}")) words ≡ false → heads (passes (codes "importlib")) words ≡ false → item_at s words ≡ Got x t
    → u ≡ cond (heads (passes (codes ";")) t) (later_words t) t → ItemsRead xs (n - i) s words total
    → ItemsRead (xs ++ x ∷ []) (n - (i + 1)) (items_grow s x) u total
items_go_on xs n i s words t u x total lt going here h is r = record {
  front = r.front ++ OfItem x ∷ [];
  are = more_items r.front x ∙ ap (λ (ys : List Item). ys ++ x ∷ []) r.are;
  so_far = until_goes_on (passes (codes "}")) semicolon_after content_at elements_grow closing_at r.front n i s words t u (OfItem x) total lt going
      (at_item s words t x here h) (is ∙ word_after x t) r.so_far;
}

pub imports_go_on : (xs : List Item) (n i : ℕ) (s : ItemsSeen) (words t : List Word) (total : ReadStep (List LibraryContent × Unit {0})) → i < n
    → heads (passes (codes "}")) words ≡ false → heads (passes (codes "importlib")) words ≡ true → import_at words ≡ Got done t
    → ItemsRead xs (n - i) s words total → ItemsRead xs (n - (i + 1)) s t total
imports_go_on xs n i s words t total lt going here h r = record {
  front = r.front ++ Import ∷ [];
  are = more_imports r.front ∙ r.are;
  so_far = until_goes_on (passes (codes "}")) semicolon_after content_at elements_grow closing_at r.front n i s words t t Import total lt going
      (at_import s words t here h) (no_word_after t) r.so_far;
}

pub items_end : (xs : List Item) (n i room : ℕ) (s : ItemsSeen) (words start : List Word) → i < n → heads (passes (codes "}")) words ≡ true
    → ItemsRead xs (n - i) s words (so_far_read room no_items start) → elements_within room start ≡ Got xs (later_words words)
unfolding elements_within bind give
items_end xs n i room s words start lt closed r =
    let one = until_ends_at (passes (codes "}")) semicolon_after content_at elements_grow r.front n i s words
    (so_far_read room no_items start) lt closed r.so_far in
    ap (λ (o : ReadStep (List LibraryContent × Unit {0})). and_then o items_alone) one ∙ ap (λ (ys : List Item). got_items ys (later_words words)) r.are
  where
    got_items : List Item → List Word → ReadStep (List Item)
    got_items ys left = Got ys left

items_stuck : (room : ℕ) (start t : List Word) (why : Stop) → so_far_read room no_items start ≡ Stuck why t
    → elements_within room start ≡ Stuck why t
unfolding elements_within bind
items_stuck room start t why e = ap (λ (o : ReadStep (List LibraryContent × Unit {0})). and_then o items_alone) e

pub items_out : (xs : List Item) (n i room : ℕ) (s : ItemsSeen) (words start : List Word) → n ≤ i
    → ItemsRead xs (n - i) s words (so_far_read room no_items start) → elements_within room start ≡ Stuck Syntax words
items_out xs n i room s words start le r =
    items_stuck room start words Syntax (until_out (passes (codes "}")) semicolon_after content_at elements_grow closing_at r.front n i s words
    (so_far_read room no_items start) le r.so_far)

item_stops : (s : ItemsSeen) (words t : List Word) (why : Stop) → heads (passes (codes "importlib")) words ≡ false
    → item_at s words ≡ Stuck why t → content_at s words ≡ Stuck why t
unfolding content_at choose bind
item_stops s words t why is h = rw (is, h) refl

import_stops : (s : ItemsSeen) (words t : List Word) (why : Stop) → heads (passes (codes "importlib")) words ≡ true
    → import_at words ≡ Stuck why t → content_at s words ≡ Stuck why t
unfolding content_at choose bind
import_stops s words t why is h = rw (is, h) refl

content_stops : (xs : List Item) (n i room : ℕ) (s : ItemsSeen) (words t start : List Word) (why : Stop) → i < n
    → heads (passes (codes "}")) words ≡ false → content_at s words ≡ Stuck why t
    → ItemsRead xs (n - i) s words (so_far_read room no_items start) → elements_within room start ≡ Stuck why t
content_stops xs n i room s words t start why lt going h r =
    items_stuck room start t why (until_stops (passes (codes "}")) semicolon_after content_at elements_grow closing_at r.front n i s words t why
    (so_far_read room no_items start) lt going h r.so_far)

pub items_err : (e : Stop) (xs : List Item) (n i room : ℕ) (s : ItemsSeen) (words t start : List Word) → i < n
    → heads (passes (codes "}")) words ≡ false → heads (passes (codes "importlib")) words ≡ false
    → ReadsWords {X = Item} (λ x. x) (Err e) t (item_at s words)
    → ItemsRead xs (n - i) s words (so_far_read room no_items start)
    → ReadsWords {X = Vec Item} (λ v. v.items) (Err e) t (elements_within room start)
items_err Syntax xs n i room s words t start lt going here h r = content_stops xs n i room s words t start Syntax lt going
    (item_stops s words t Syntax here h) r
items_err (stops.Limit l) xs n i room s words t start lt going here h r = content_stops xs n i room s words t start (stops.Limit l) lt going
    (item_stops s words t (stops.Limit l) here h) r
items_err Memory xs n i room s words t start lt going here h r = tt

pub imports_err : (e : Stop) (xs : List Item) (n i room : ℕ) (s : ItemsSeen) (words t start : List Word) → i < n
    → heads (passes (codes "}")) words ≡ false → heads (passes (codes "importlib")) words ≡ true
    → ReadsWords {X = Unit {0}} (λ _. done) (Err e) t (import_at words)
    → ItemsRead xs (n - i) s words (so_far_read room no_items start)
    → ReadsWords {X = Vec Item} (λ v. v.items) (Err e) t (elements_within room start)
imports_err Syntax xs n i room s words t start lt going here h r = content_stops xs n i room s words t start Syntax lt going
    (import_stops s words t Syntax here h) r
imports_err (stops.Limit l) xs n i room s words t start lt going here h r = content_stops xs n i room s words t start (stops.Limit l) lt going
    (import_stops s words t (stops.Limit l) here h) r
imports_err Memory xs n i room s words t start lt going here h r = tt

pub few_interfaces : (s : ItemsSeen) (x : Item) (n : ℕ) → s.interfaces ≤ n → (items_grow s x).interfaces ≤ n + 1
few_interfaces s (items.Interface d) n le = omega (arith, le)
few_interfaces s (items.Coclass c) n le = omega (arith, le)

pub few_coclasses : (s : ItemsSeen) (x : Item) (n : ℕ) → s.coclasses ≤ n → (items_grow s x).coclasses ≤ n + 1
few_coclasses s (items.Interface d) n le = omega (arith, le)
few_coclasses s (items.Coclass c) n le = omega (arith, le)
