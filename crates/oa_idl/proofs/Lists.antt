-- The reading of a list reads the form of the list.
use Rattle.std.proofs.Common.{◌≡◌, ℕ, zero, suc, ◌<◌, ◌≤◌, Bool, true, false, cond, List, [], ◌∷◌, ◌++◌, length, refl, sym, ap, subst, ◌∙◌}
use Rattle.std.proofs.Common.{append_assoc, arith}
use Rattle.std.proofs.lemmas.List.{nil_from_length, length-append}
use Rattle.std.proofs.Math.Logic.{⊎_elim}
use Rattle.oa_idl.specs.declared.stop.TreeLimit.{TreeLimit}
use Rattle.oa_idl.specs.declared.stop.Stop.{Stop}
use Rattle.oa_idl.specs.declared.stop.Stop.TheVariants.{Syntax}
use Rattle.oa_idl.specs.promise.Forms.{Word, ◌▸◌, given, this, optional, with, listed, gathered, nowhere}
use Rattle.oa_idl.specs.Forms.{BeginsWithWords}
use Rattle.oa_idl.specs.Reading.{ReadStep, Parser, and_then, bind, give, fail, heads, done, choose, later_words, perhaps_at, until, list_at}
use Rattle.oa_idl.specs.Reading.{gather, gather_at}
use Rattle.oa_idl.specs.Reading.ReadStep.{Got, Stuck}
use Rattle.oa_idl.proofs.Parses.{Parses, Always, NoLimit, stuck_at, syntax_stops}
use Rattle.oa_idl.proofs.PartParses.{enough, said_parses, with_parses}
use Rattle.oa_idl.proofs.ChoiceParses.{clash}
use Rattle.oa_idl.proofs.FurtherParses.{alike_parses}
use Rattle.oa_idl.proofs.Parses.{this_parses}
use Rattle.oa_idl.proofs.ChoiceParses.{given_parses, choose_parses, perhaps_parses, then_heads, this_heads}
use Rattle.oa_idl.proofs.FurtherParses.{add_fact, less_fact}

-- Each item keeps a limit, which may depend on the items before it, and so does the end.
abbrev pub KeepsFrom : {S A B : Type 0} → (S → A → S) → (S → A → Type 0) → (S → B → Type 0) → S → List A → B → Type 0
KeepsFrom grow K E s [] b = E s b
KeepsFrom grow K E s (x ∷ xs) b = K s x × KeepsFrom grow K E (grow s x) xs b

abbrev pub both : {A B : Type 0} → List A → B → List A × B
both xs b = (xs, b)

abbrev pub alone : {A B : Type 0} → B → List A × B
alone b = ([], b)

module _ {S A B : Type 0} {F : S → A → List Word → Type 0} {K : S → TreeLimit → A → Type 0} {P : S → A → Type 0} {item : S → List Word
    → ReadStep A}
    {E : S → B → List Word → Type 0} {L : S → TreeLimit → B → Type 0} {Q : S → B → Type 0} {last : S → List Word → ReadStep B}
    (grow : S → A → S) (test : Word → Bool) (apart : A → Word → Bool)
    (r : (n : ℕ) (s : S) → Parses n Always (F s) (K s) (P s) (item s))
    (e : (n : ℕ) (s : S) → Parses n Always (E s) (L s) (Q s) (last s))
    (some_words : (s : S) (x : A) (text : List Word) → F s x text → 0 < length text)
    (no_end : (s : S) (x : A) (text more : List Word) → F s x text → heads test (text ++ more) ≡ false)
    (ends : (s : S) (b : B) (text more : List Word) → E s b text → heads test (text ++ more) ≡ true)
    (no_apart : (y : A) (s : S) (x : A) (text more : List Word) → F s x text → heads (apart y) (text ++ more) ≡ false)
    (end_not_apart : (y : A) (s : S) (b : B) (text more : List Word) → E s b text → heads (apart y) (text ++ more) ≡ false)
  where
    listed_free : (y : A) (s : S) (xs : List A) (b : B) (text more : List Word) → listed F grow apart E s xs b text
        → heads (apart y) (text ++ more) ≡ false
    listed_free y s [] b text more f = end_not_apart y s b text more f
    listed_free y s (x ∷ xs) b text more f = then_heads (apart y) false text more (λ a left h. no_apart y s x a left h) f

    end_some : (s : S) (b : B) (text : List Word) → E s b text → 0 < length text
    end_some s b [] f = absurd (clash (ends s b [] [] f) refl)
    end_some s b (w ∷ text) f = omega arith

    listed_some : (s : S) (xs : List A) (b : B) (text : List Word) → listed F grow apart E s xs b text → 0 < length text
    listed_some s [] b text f = end_some s b text f
    listed_some s (x ∷ xs) b text f = omega (arith, some_words s x f.front f.first, ap length f.parts, length-append f.front f.back)

    -- The words after a first item.
    after_same : {G H : List Word → Type 0} {X : Type 0} (y : A) (a b s t : List Word)
        → ((text more : List Word) → G text → heads (apart y) (text ++ more) ≡ false)
        → ((text more : List Word) → H text → heads (apart y) (text ++ more) ≡ false)
        → ((c d : List Word) → G c → H d → c ++ s ≡ d ++ t → X) → (optional (this (apart y)) ▸ G) a → (optional (this (apart y)) ▸ H) b
        → a ++ s ≡ b ++ t → X
    after_same {G} {H} {X} y a b s t free_g free_h both f g e = ⊎_elim
        (λ (k : this (apart y) f.front). ⊎_elim
        (λ (j : this (apart y) g.front). both f.back g.back f.second g.second
        ((this_parses {n = 0} (apart y)).same done done f.front g.front (f.back ++ s) (g.back ++ t) tt tt k j whole).1)
        (λ (j : g.front ≡ []). absurd (clash (ap (heads (apart y)) (sym whole) ∙ this_heads (apart y) f.front (f.back ++ s) k)
        (ap (λ (ws : List Word). heads (apart y) (ws ++ (g.back ++ t))) j ∙ free_h g.back t g.second)))
        g.first)
        (λ (k : f.front ≡ []). ⊎_elim
        (λ (j : this (apart y) g.front). absurd (clash (ap (heads (apart y)) whole ∙ this_heads (apart y) g.front (g.back ++ t) j)
        (ap (λ (ws : List Word). heads (apart y) (ws ++ (f.back ++ s))) k ∙ free_g f.back s f.second)))
        (λ (j : g.front ≡ []). both f.back g.back f.second g.second
        (ap (λ (ws : List Word). ws ++ (f.back ++ s)) (sym k) ∙ whole ∙ ap (λ (ws : List Word). ws ++ (g.back ++ t)) j))
        g.first)
        f.first
      where
        whole : f.front ++ (f.back ++ s) ≡ g.front ++ (g.back ++ t)
        whole = sym (append_assoc f.front f.back s) ∙ ap (λ (ws : List Word). ws ++ s) (sym f.parts) ∙ e ∙ ap (λ (ws : List Word). ws ++ t) g.parts
            ∙ append_assoc g.front g.back t

    listed_same : (v : S) (xs ys : List A) (b c : B) (m n s t : List Word) → listed F grow apart E v xs b m
        → listed F grow apart E v ys c n → m ++ s ≡ n ++ t → (xs ≡ ys) × (b ≡ c) × (s ≡ t)
    listed_same v [] [] b c m n s t f g q = let k = (e 0 v).same b c m n s t tt tt f g q in (refl, k.0, k.1)
    listed_same v [] (y ∷ ys) b c m n s t f g q =
        absurd (clash (ap (heads test) (sym q) ∙ ends v b m s f) (then_heads test false n t (λ a left h. no_end v y a left h) g))
    listed_same v (x ∷ xs) [] b c m n s t f g q =
        absurd (clash (ap (heads test) q ∙ ends v c n t g) (then_heads test false m s (λ a left h. no_end v x a left h) f))
    listed_same v (x ∷ xs) (y ∷ ys) b c m n s t f g q =
        let whole : f.front ++ (f.back ++ s) ≡ g.front ++ (g.back ++ t) = sym (append_assoc f.front f.back s) ∙ ap (λ (ws : List Word). ws ++ s) (sym f.parts)
        ∙ q ∙ ap (λ (ws : List Word). ws ++ t) g.parts ∙ append_assoc g.front g.back t in
        let first = (r 0 v).same x y f.front g.front (f.back ++ s) (g.back ++ t) tt tt f.first g.first whole in
        let second = subst (λ (z : A). (optional (this (apart z)) ▸ listed F grow apart E (grow v z) ys c) g.back) (sym first.0) g.second in
        let others = after_same x f.back g.back s t (λ text more h. listed_free x (grow v x) xs b text more h)
        (λ text more h. listed_free x (grow v x) ys c text more h) (λ i j h k q. listed_same (grow v x) xs ys b c i j s t h k q) f.second second first.1 in
        ((λ i. first.0 i ∷ others.0 i), others.1, others.2)

    -- an item, and then a list
    unfoldable More : S → List A × B → List Word → Type 0
    More s p =
        with (F s) (λ x. optional (this (apart x)) ▸ with (λ (q : List A × B). listed F grow apart E (grow s x) q.0 q.1) (λ q. given (p ≡ both (x ∷ q.0) q.1)))

    pub until_parses : (n : ℕ) (s : S) → Parses n Always (λ p. listed F grow apart E s p.0 p.1)
        (λ l p. KeepsFrom grow (λ v x. K v l x) (λ v b. L v l b) s p.0 p.1) (λ p. KeepsFrom grow P Q s p.0 p.1)
        (until test apart item grow last n s)
    unfolding until fail More
    until_parses zero s = record {
      same = λ p q a b t u _ _ f g w. let k = listed_same s p.0 q.0 p.1 q.1 a b t u f g w in ((λ i. (k.0 i, k.1 i)), k.2);
      takes = λ words x left le w. absurd cc;
      stuck = λ words why left le w.
          let none : words ≡ [] = nil_from_length words (omega (arith, le)) in
          let gone : [] ≡ left = sym none ∙ left_is words why left w in
          record {
            front = [];
            parts = left_is words why left w;
            named = syntax_stops words why left w;
            apart = λ p text more _ _ f b.
                let empty : text ++ more ≡ [] = subst (λ (l : List Word). BeginsWithWords [] l (text ++ more)) (sym gone) b in
                let long = listed_some s p.0 p.1 text f in
                absurd (omega (arith, long, ap length empty, length-append text more));
          };
    }
      where
        left_is : (words : List Word) (why : Stop) (left : List Word) → stuck_at {A = List A × B} Syntax words ≡ Stuck why left
            → words ≡ left
        left_is words why left w = cc
    until_parses (suc n) s = choose_parses {A = λ p. with (E s) (λ b. given (p ≡ alone b))} {B = More s} test (λ p text more _ f is. yes p.0 p.1 text more f is)
        (λ p text more _ f is. no p.0 p.1 text more f is) (λ p text _ f. from_yes p text f) (λ p text _ f. from_no p text f)
        (with_parses {G = λ b p. given (p ≡ alone b)} (e (suc n) s) (enough (E s) (suc n))
        (λ l b p text _ g k. subst (λ (q : List A × B). KeepsFrom grow (λ v x. K v l x) (λ v c. L v l c) s q.0 q.1) g.fact k)
        (λ b. given_parses (alone b) tt (λ known. known)))
        (with_parses
        {G = λ x p. optional (this (apart x)) ▸ with (λ (q : List A × B). listed F grow apart E (grow s x) q.0 q.1) (λ q. given (p ≡ both (x ∷ q.0) q.1))}
        (r (suc n) s) less has
        (λ x. perhaps_parses (apart x) (λ p text more _ f. then_heads (apart x) false text more
        (λ a left h. listed_free x (grow s x) f.value.0 f.value.1 a left h) f.form)
        (with_parses {G = λ q p. given (p ≡ both (x ∷ q.0) q.1)} (until_parses n (grow s x))
        (enough (λ (q : List A × B). listed F grow apart E (grow s x) q.0 q.1) n)
        (λ l q p text _ g k. (subst (λ (z : List A × B). KeepsFrom grow (λ v x. K v l x) (λ v c. L v l c) s z.0 z.1) g.fact k).1)
        (λ q. given_parses (both (x ∷ q.0) q.1) tt (λ all one. (one, all))))))
      where
        less : (x : A) (text left : List Word) → F s x text → length (text ++ left) ≤ suc n → length left ≤ n
        less x text left f le = omega (arith, le, some_words s x text f, length-append text left)

        has : (l : TreeLimit) (x : A) (p : List A × B) (text : List Word) → Always p
            → (optional (this (apart x)) ▸ with (λ (q : List A × B). listed F grow apart E (grow s x) q.0 q.1)
            (λ q. given (p ≡ both (x ∷ q.0) q.1))) text → KeepsFrom grow (λ v x. K v l x) (λ v c. L v l c) s p.0 p.1 → K s l x
        has l x p text _ g k = (subst (λ (z : List A × B). KeepsFrom grow (λ v x. K v l x) (λ v c. L v l c) s z.0 z.1) g.second.form.second.fact k).0

        yes : (xs : List A) (b : B) (text more : List Word) → listed F grow apart E s xs b text → heads test (text ++ more) ≡ true
            → with (E s) (λ c. given (both xs b ≡ alone c)) text
        yes [] b text more f is = record { value = b; form = add_fact refl text f }
        yes (x ∷ xs) b text more f is = absurd (clash is (then_heads test false text more (λ a left h. no_end s x a left h) f))

        no : (xs : List A) (b : B) (text more : List Word) → listed F grow apart E s xs b text → heads test (text ++ more) ≡ false
            → More s (both xs b) text
        no [] b text more f is = absurd (clash (ends s b text more f) is)
        no (x ∷ xs) b text more f is = record {
          value = x;
          form = record {
            front = f.front;
            back = f.back;
            parts = f.parts;
            first = f.first;
            second = record {
              front = f.second.front;
              back = f.second.back;
              parts = f.second.parts;
              first = f.second.first;
              second = record { value = both xs b; form = add_fact refl f.second.back f.second.second };
            };
          };
        }

        from_yes : (p : List A × B) (text : List Word) → with (E s) (λ c. given (p ≡ alone c)) text → listed F grow apart E s p.0 p.1 text
        from_yes p text f = subst (λ (q : List A × B). listed F grow apart E s q.0 q.1 text) (sym f.form.second.fact) (less_fact text f.form)

        from_no : (p : List A × B) (text : List Word) → More s p text → listed F grow apart E s p.0 p.1 text
        from_no p text f =
            let rest = f.form.second in
            subst (λ (q : List A × B). listed F grow apart E s q.0 q.1 text) (sym rest.second.form.second.fact) (record {
              front = f.form.front;
              back = f.form.back;
              parts = f.form.parts;
              first = f.form.first;
              second = record {
                front = rest.front;
                back = rest.back;
                parts = rest.parts;
                first = rest.first;
                second = less_fact rest.back rest.second.form;
              };
            })

    pub list_parses : (n : ℕ) (s : S) → Parses n Always (λ p. listed F grow apart E s p.0 p.1)
        (λ l p. KeepsFrom grow (λ v x. K v l x) (λ v b. L v l b) s p.0 p.1) (λ p. KeepsFrom grow P Q s p.0 p.1)
        (list_at test apart item grow last s)
    unfolding list_at
    list_parses n s = record {
      same = (until_parses 0 s).same;
      takes = λ words x left le w. (until_parses (length words) s).takes words x left (omega arith) w;
      stuck = λ words why left le w. (until_parses (length words) s).stuck words why left (omega arith) w;
    }

-- ---- If only the state is kept.

module _ {S A B : Type 0} {F : S → A → List Word → Type 0} {item : S → List Word → ReadStep A} {E : S → B → List Word → Type 0} {last : S
    → List Word → ReadStep B}
    (grow : S → A → S) (test : Word → Bool)
    (r : (n : ℕ) (s : S) → Parses n Always (F s) NoLimit Always (item s))
    (e : (n : ℕ) (s : S) → Parses n Always (E s) NoLimit Always (last s))
    (some_words : (s : S) (x : A) (text : List Word) → F s x text → 0 < length text)
    (no_end : (s : S) (x : A) (text more : List Word) → F s x text → heads test (text ++ more) ≡ false)
    (ends : (s : S) (b : B) (text more : List Word) → E s b text → heads test (text ++ more) ≡ true)
  where
    heads_nowhere : (y : A) (words : List Word) → heads (nowhere y) words ≡ false
    heads_nowhere y [] = refl
    heads_nowhere y (w ∷ words) = refl

    abbrev step : S → Parser S
    step s = bind (item s) (λ x. give (grow s x))

    no_limits : (l : TreeLimit) (s : S) (xs : List A) (b : B) → KeepsFrom {A = A} {B = B} grow (λ v x. Unit {0}) (λ v b. Unit {0}) s xs b
    no_limits l s [] b = tt
    no_limits l s (x ∷ xs) b = (tt, no_limits l (grow s x) xs b)

    at_end : (o : ReadStep B) → and_then (and_then o (λ b. give ([], b))) (λ (p : List A × B). give p.1) ≡ o
    unfolding give
    at_end (Got b left) = refl
    at_end (Stuck why left) = refl

    put : (x : A) (o : ReadStep (List A × B)) → and_then (and_then o (λ q. give (x ∷ q.0, q.1)))
        (λ (p : List A × B). give p.1) ≡ and_then o (λ (p : List A × B). give p.1)
    unfolding give
    put x (Got q left) = refl
    put x (Stuck why left) = refl

    after : (n : ℕ) (x : A) (t : S) (left : List Word)
        → and_then (until test nowhere item grow last n t left) (λ (p : List A × B). give p.1) ≡ gather test step last n t left
        → and_then (and_then (until test nowhere item grow last n t (cond (heads (nowhere x) left) (later_words left) left))
        (λ q. give (x ∷ q.0, q.1))) (λ (p : List A × B). give p.1) ≡ gather test step last n t left
    after n x t left ih = rw (heads_nowhere x left) (put x (until test nowhere item grow last n t left) ∙ ih)

    by_item : (n : ℕ) (s : S) → ((t : S) (left : List Word) → and_then (until test nowhere item grow last n t left)
        (λ (p : List A × B). give p.1) ≡ gather test step last n t left) → (o : ReadStep A)
        → and_then (and_then o (λ x left. and_then (until test nowhere item grow last n (grow s x)
        (cond (heads (nowhere x) left) (later_words left) left)) (λ q. give (x ∷ q.0, q.1))))
        (λ (p : List A × B). give p.1) ≡ and_then (and_then o (λ x. give (grow s x))) (λ t. gather test step last n t)
    unfolding give
    by_item n s ih (Got x left) = after n x (grow s x) left (ih (grow s x) left)
    by_item n s ih (Stuck why left) = refl

    by_head : (n : ℕ) (s : S) (words : List Word)
        → ((t : S) (left : List Word) → and_then (until test nowhere item grow last n t left)
        (λ (p : List A × B). give p.1) ≡ gather test step last n t left)
        → (v : Bool) → heads test words ≡ v → and_then (until test nowhere item grow last (suc n) s words)
        (λ (p : List A × B). give p.1) ≡ gather test step last (suc n) s words
    unfolding until gather bind choose perhaps_at
    by_head n s words ih true is = rw is (at_end (last s words))
    by_head n s words ih false is = rw is (by_item n s ih (item s words))

    gather_is : (n : ℕ) (s : S) (words : List Word) → and_then (until test nowhere item grow last n s words)
        (λ (p : List A × B). give p.1) ≡ gather test step last n s words
    unfolding until gather fail
    gather_is zero s words = refl
    gather_is (suc n) s words = by_head n s words (λ t left. gather_is n t left) (heads test words) refl

    pub gather_parses : (n : ℕ) (s : S) → Parses n Always (gathered F grow nowhere E s) NoLimit Always (gather_at test step last s)
    unfolding gather_at bind
    gather_parses n s = record {
      same = (one 0 s).same;
      takes = λ words x left le w. (one (length words) s).takes words x left (omega arith) w;
      stuck = λ words why left le w. (one (length words) s).stuck words why left (omega arith) w;
    }
      where
        lists : (n : ℕ) (s : S) → Parses n Always (λ p. listed F grow nowhere E s p.0 p.1)
            (λ l p. KeepsFrom grow (λ v x. Unit {0}) (λ v b. Unit {0}) s p.0 p.1)
            (λ p. KeepsFrom grow (λ v x. Unit {0}) (λ v b. Unit {0}) s p.0 p.1) (until test nowhere item grow last n s)
        lists n s = until_parses grow test nowhere r e some_words no_end ends (λ y s x text more f. heads_nowhere y (text ++ more))
            (λ y s b text more f. heads_nowhere y (text ++ more)) n s

        one : (n : ℕ) (s : S) → Parses n Always (gathered F grow nowhere E s) NoLimit Always (gather test step last n s)
        one n s = alike_parses {f = bind (until test nowhere item grow last n s) (λ (p : List A × B). give p.1)} (λ words. gather_is n s words)
            (said_parses {F = λ b. with (λ (p : List A × B). listed F grow nowhere E s p.0 p.1) (λ p. given (b ≡ p.1))} (λ b h. h) (λ b h. h) there back
            (λ b h. h)
            (with_parses {G = λ p b. given (b ≡ p.1)} (lists n s) (enough (λ (p : List A × B). listed F grow nowhere E s p.0 p.1) n)
            (λ l p b text _ g k. no_limits l s p.0 p.1) (λ p. given_parses p.1 tt (λ _. tt))))
          where
            there : (b : B) (text : List Word) → Always b → with (λ (p : List A × B). listed F grow nowhere E s p.0 p.1)
                (λ p. given (b ≡ p.1)) text → gathered F grow nowhere E s b text
            there b text _ f = record {
              all = f.value.0;
              form = subst (λ (c : B). listed F grow nowhere E s f.value.0 c text) (sym f.form.second.fact)
                  (less_fact text f.form);
            }

            back : (b : B) (text : List Word) → Always b → gathered F grow nowhere E s b text
                → with (λ (p : List A × B). listed F grow nowhere E s p.0 p.1) (λ p. given (b ≡ p.1)) text
            back b text _ f = record { value = both f.all b; form = add_fact refl text f.form }
