-- One stretch after another: a reading of each part reads the form of all.
use Rattle.std.proofs.Common.{◌≡◌, ℕ, ◌≤◌, Bool, List, [], ◌∷◌, ◌++◌, length, Option, Some, None, refl, sym, ap}
use Rattle.std.proofs.Common.{subst, ◌∙◌, append_assoc, arith}
use Rattle.std.proofs.lemmas.List.{length-append}
use Rattle.std.proofs.Math.Logic.{⊎_elim}
use Rattle.oa_idl.specs.declared.stop.TreeLimit.{TreeLimit}
use Rattle.oa_idl.specs.declared.stop.Stop.{Stop}
use Rattle.oa_idl.specs.declared.stop.Stop.TheVariants.{Syntax, Memory}
use Rattle.oa_idl.specs.declared.stop.Stop.TheVariants as stops
use Rattle.oa_idl.specs.promise.Forms.{Word, ◌▸◌, nothing, this, one, with}
use Rattle.oa_idl.specs.Forms.{BeginsWithWords}
use Rattle.oa_idl.specs.Reading.{Parser, bind, give, done, this_at, meaning_of, unless_over}
use Rattle.oa_idl.specs.Reading.{if_meant, one_at}
use Rattle.oa_idl.specs.Words.{NamedAt}
use Rattle.oa_idl.specs.Reading.ReadStep.{Got, Stuck}
use Rattle.oa_idl.proofs.Parses.{Always, Keeps, Later, Parses, Stops, StopsAt, Takes, apart_cons, begins_after, bind_got, bind_stuck, got_is, shorter, some}
use Rattle.oa_idl.proofs.Parses.{stuck_at, syntax_stops, this_parses}

-- A part that determines the following ones, if H is known of its value.
pub with_known_parses : {n m : ℕ} {A C : Type 0} {F : A → List Word → Type 0} {K : TreeLimit → A → Type 0} {P H : A → Type 0} {R : C
    → Type 0} {G : A → C → List Word → Type 0} {L : TreeLimit → C → Type 0} {Q : C → Type 0} {read : Parser A} {next : A → Parser C}
    → Parses n Always F K P read
    → ((a : A) (text left : List Word) → F a text → length (text ++ left) ≤ n → length left ≤ m)
    → ((l : TreeLimit) (a : A) (c : C) (text : List Word) → R c → G a c text → L l c → K l a)
    → ((a : A) (text : List Word) → F a text → H a)
    → ((a : A) → H a → Parses m R (G a) L (λ c. P a → Q c) (next a))
    → Parses n R (λ c. with F (λ a. G a c)) L Q (bind read next)
unfolding bind
with_known_parses {n} {m} {A} {C} {F} {K} {P} {H} {R} {G} {L} {Q} {read} {next} r less has known then = record {
  same = λ x y a b s t rx ry f g e.
      let first = r.same f.value g.value f.form.front g.form.front (f.form.back ++ s) (g.form.back ++ t) tt tt f.form.first g.form.first
      (regroup a f.form.front f.form.back s f.form.parts ∙ e ∙ sym (regroup b g.form.front g.form.back t g.form.parts)) in
      (then g.value (known g.value g.form.front g.form.first)).same x y f.form.back g.form.back s t rx ry
      (subst (λ (v : A). G v x f.form.back) first.0 f.form.second) g.form.second first.1;
  takes = λ words x left le e.
      let b = bind_got (read words) next x left e in
      let first = r.takes words b.0 b.1 le b.2 in
      let second = (then b.0 (known b.0 first.1.text first.1.form)).takes b.1 x left
      (less b.0 first.1.text b.1 first.1.form (shorter n words first.1.text b.1 le first.1.parts)) b.3 in (
        (second.0.0, second.0.1 first.0.1),
        record {
          text = first.1.text ++ second.1.text;
          parts = first.1.parts ∙ ap (λ (ws : List Word). first.1.text ++ ws) second.1.parts ∙ sym (append_assoc first.1.text second.1.text left);
          form = record {
            value = b.0;
            form = record { front = first.1.text; back = second.1.text; parts = refl; first = first.1.form; second = second.1.form };
          };
        },
      );
  stuck = λ words why left le e. ⊎_elim (early words why left le) (late words why left le) (bind_stuck (read words) next why left e);
}
  where
    regroup : (a front back s : List Word) → a ≡ front ++ back → front ++ (back ++ s) ≡ a ++ s
    regroup a front back s e = sym (ap (λ (ws : List Word). ws ++ s) e ∙ append_assoc front back s)

    keeps : (why : Stop) (a : A) (c : C) (text : List Word) → R c → G a c text → Keeps L why c → Keeps K why a
    keeps Syntax a c text h g k = tt
    keeps (stops.Limit l) a c text h g k = has l a c text h g k
    keeps Memory a c text h g k = tt

    early : (words : List Word) (why : Stop) (left : List Word) → length words ≤ n → read words ≡ Stuck why left
        → Stops R (λ c. with F (λ a. G a c)) L words why left
    early words why left le e =
        let s = r.stuck words why left le e in
        record {
          front = s.front;
          parts = s.parts;
          named = s.named;
          apart = λ c text more h k f b.
              s.apart f.value f.form.front (f.form.back ++ more) tt (keeps why f.value c f.form.back h f.form.second k) f.form.first
              (subst (BeginsWithWords s.front left) (sym (regroup text f.form.front f.form.back more f.form.parts)) b);
        }

    late : (words : List Word) (why : Stop) (left : List Word) → length words ≤ n → Later (read words) next why left
        → Stops R (λ c. with F (λ a. G a c)) L words why left
    late words why left le d =
        let first = (r.takes words d.value d.left le d.first).1 in
        let s = (then d.value (known d.value first.text first.form)).stuck d.left why left
        (less d.value first.text d.left first.form (shorter n words first.text d.left le first.parts)) d.second in
        record {
          front = first.text ++ s.front;
          parts = first.parts ∙ ap (λ (ws : List Word). first.text ++ ws) s.parts ∙ sym (append_assoc first.text s.front left);
          named = s.named;
          apart = λ c text more h k f b.
              let past = begins_after first.text s.front left (text ++ more) b in
              let one = r.same f.value d.value f.form.front first.text (f.form.back ++ more) past.0 tt tt f.form.first first.form
              (regroup text f.form.front f.form.back more f.form.parts ∙ past.1) in
              s.apart c f.form.back more h k (subst (λ (v : A). G v c f.form.back) one.0 f.form.second)
              (subst (BeginsWithWords s.front left) (sym one.1) past.2);
        }

-- A part that determines the following ones.
pub with_parses : {n m : ℕ} {A C : Type 0} {F : A → List Word → Type 0} {K : TreeLimit → A → Type 0} {P : A → Type 0} {R : C
    → Type 0} {G : A → C → List Word → Type 0} {L : TreeLimit → C → Type 0} {Q : C → Type 0} {read : Parser A} {next : A → Parser C}
    → Parses n Always F K P read
    → ((a : A) (text left : List Word) → F a text → length (text ++ left) ≤ n → length left ≤ m)
    → ((l : TreeLimit) (a : A) (c : C) (text : List Word) → R c → G a c text → L l c → K l a)
    → ((a : A) → Parses m R (G a) L (λ c. P a → Q c) (next a))
    → Parses n R (λ c. with F (λ a. G a c)) L Q (bind read next)
with_parses r less has then = with_known_parses {H = Always} r less has (λ a text f. tt) (λ a h. then a)

-- The same sequences, by another form.
pub said_parses : {n : ℕ} {C : Type 0} {R S : C → Type 0} {F G : C → List Word → Type 0} {K : TreeLimit → C → Type 0} {P Q : C
    → Type 0} {read : Parser C}
    → ((c : C) → R c → S c) → ((c : C) → S c → R c) → ((c : C) (text : List Word) → R c → F c text → G c text)
    → ((c : C) (text : List Word) → S c → G c text → F c text) → ((c : C) → P c → Q c)
    → Parses n R F K P read → Parses n S G K Q read
said_parses to from there back known r = record {
  same = λ x y a b s t hx hy f g e. r.same x y a b s t (from x hx) (from y hy) (back x a hx f) (back y b hy g) e;
  takes = λ words x left le e.
      let h = r.takes words x left le e in
      ((to x h.0.0, known x h.0.1), record { text = h.1.text; parts = h.1.parts; form = there x h.1.text h.0.0 h.1.form });
  stuck = λ words why left le e.
      let h = r.stuck words why left le e in
      record {
        front = h.front;
        parts = h.parts;
        named = h.named;
        apart =
            λ c text more s k f b. h.apart c text more (from c s) k (back c text s f) b;
      };
}

-- A fact that the form implies.
pub fact_parses : {n : ℕ} {C : Type 0} {R P : C → Type 0} {F : C → List Word → Type 0} {K : TreeLimit → C → Type 0} {Q : C
    → Type 0} {read : Parser C} → Parses n (λ c. R c × P c) F K Q read → Parses n R (λ c ws. P c × F c ws) K Q read
fact_parses r = record {
  same = λ x y f g s t hx hy k h e. r.same x y f g s t (hx, k.0) (hy, h.0) k.1 h.1 e;
  takes = λ words x left le e.
      let h = r.takes words x left le e in
      ((h.0.0.0, h.0.1), record { text = h.1.text; parts = h.1.parts; form = (h.0.0.1, h.1.form) });
  stuck = λ words why left le e.
      let h = r.stuck words why left le e in
      record { front = h.front; parts = h.parts; named = h.named; apart = λ c text more s k f b. h.apart c text more (s, f.0) k f.1 b };
}

-- no fewer words are left than that
pub enough : {A : Type 0} (F : A → List Word → Type 0) (n : ℕ) (a : A) (text left : List Word) → F a text → length (text ++ left) ≤ n
    → length left ≤ n
enough F n a text left f le = omega (arith, le, length-append text left)

-- a part of which the value keeps proj
pub part_parses : {n : ℕ} {A C : Type 0} {F : A → List Word → Type 0} {K : TreeLimit → A → Type 0} {P : A → Type 0} {R : C → Type 0} {G : C
    → List Word → Type 0} {L : TreeLimit → C → Type 0} {Q : C → Type 0} {read : Parser A} {next : A → Parser C}
    (proj : C → A)
    → Parses n Always F K P read
    → ((l : TreeLimit) (c : C) → R c → L l c → K l (proj c))
    → ((a : A) → Parses n (λ c. R c × (proj c ≡ a)) G L (λ c. P a → Q c) (next a))
    → Parses n R (λ c. F (proj c) ▸ G c) L Q (bind read next)
part_parses {n} {A} {C} {F} {K} {P} {R} {G} {L} {Q} {read} {next} proj r has then =
    said_parses {F = λ c. with F (λ a ws. (proj c ≡ a) × G c ws)} (λ c h. h) (λ c h. h) there back (λ c h. h)
    (with_parses {G = λ a c ws. (proj c ≡ a) × G c ws} r (enough F n) (λ l a c text h g k. subst (K l) g.0 (has l c h k)) (λ a. fact_parses (then a)))
  where
    there : (c : C) (text : List Word) → R c → with F (λ a ws. (proj c ≡ a) × G c ws) text → (F (proj c) ▸ G c) text
    there c text h f = record {
      front = f.form.front;
      back = f.form.back;
      parts = f.form.parts;
      first = subst (λ (a : A). F a f.form.front)
          (sym f.form.second.0) f.form.first;
      second = f.form.second.1;
    }

    back : (c : C) (text : List Word) → R c → (F (proj c) ▸ G c) text → with F (λ a ws. (proj c ≡ a) × G c ws) text
    back c text h f = record { value = proj c; form = record { front = f.front; back = f.back; parts = f.parts; first = f.first; second = (refl, f.second) } }

-- a word that says nothing
pub skip_parses : {n : ℕ} {C : Type 0} {R : C → Type 0} {G : C → List Word → Type 0} {L : TreeLimit → C → Type 0} {Q : C
    → Type 0} {read : Parser C} (test : Word → Bool)
    → Parses n R G L Q read → Parses n R (λ c. this test ▸ G c) L Q (bind (this_at test) (λ _. read))
skip_parses {n} {C} {R} {G} {L} {Q} {read} test r =
    part_parses {G = G} (λ c. done) (this_parses test) (λ l c h k. tt)
    (λ a. said_parses (λ c h. (h, refl)) (λ c h. h.0) (λ c ws h g. g) (λ c ws h g. g) (λ c h _. h) r)

-- no words, and the one value that is meant
pub give_parses : {n : ℕ} {C : Type 0} {R : C → Type 0} {L : TreeLimit → C → Type 0} {Q : C → Type 0} (v : C) → R v → Q v
    → ((c : C) → R c → c ≡ v) → Parses n R (λ _. nothing) L Q (give v)
unfolding give
give_parses {n} {C} {R} {L} {Q} v hr hq only = record {
  same = λ x y a b s t hx hy f g e. (only x hx ∙ sym (only y hy), ap (λ (ws : List Word). ws ++ s) (sym f) ∙ e ∙ ap (λ (ws : List Word). ws ++ t) g);
  takes = λ words x left le e.
      let b = got_is v x words left e in
      ((subst R b.0 hr, subst Q b.0 hq), record { text = []; parts = b.1; form = refl });
  stuck = λ words why left le e. absurd cc;
}

-- one word that has a meaning
pub one_parses : {n : ℕ} {A : Type 0} (meaning : Word → Option A) (over : A → Option TreeLimit)
    → ((l : TreeLimit) (w : Word) (x : A) → meaning w ≡ Some x → over x ≡ Some l → NamedAt l w)
    → Parses n Always (one meaning) (λ l x. over x ≡ Some l → ⊥) (λ x. over x ≡ None) (one_at meaning over)
unfolding one_at
one_parses {n} {A} meaning over name_at = record {
  same = λ x y a b s t _ _ f g e.
      let k = apart_cons f.word g.word s t (ap (λ (ws : List Word). ws ++ s) (sym f.parts) ∙ e ∙ ap (λ (ws : List Word). ws ++ t) g.parts) in
      (some_is x y (sym f.is ∙ ap meaning k.0 ∙ g.is), k.1);
  takes = λ words x left le e. takes_one words x left e;
  stuck = λ words why left le e. stops_one words why left e;
}
  where
    some_is : (x y : A) → some x ≡ Some y → x ≡ y
    some_is x y e = cc

    takes_one : (words : List Word) (x : A) (left : List Word) → if_meant (meaning_of meaning words) over words ≡ Got x left
        → (Always x × (over x ≡ None)) × Takes (one meaning x) words left
    takes_one [] x left e = absurd cc
    takes_one (w ∷ words) x left e = meant (meaning w) refl e
      where
        within : (y : A) → meaning w ≡ Some y → (o : Option TreeLimit) → over y ≡ o → unless_over o y (w ∷ words) ≡ Got x left
            → (Always x × (over x ≡ None)) × Takes (one meaning x) (w ∷ words) left
        within y is None kept e =
            let b = got_is y x words left e in (
              (tt, ap over (sym b.0) ∙ kept),
              record {
                text = w ∷ [];
                parts = ap (λ (ws : List Word). w ∷ ws) b.1;
                form = record { word = w; parts = refl; is = is ∙ ap some b.0 };
              },
            )
        within y is (Some l) kept e = absurd cc

        meant : (o : Option A) → meaning w ≡ o → if_meant o over (w ∷ words) ≡ Got x left
            → (Always x × (over x ≡ None)) × Takes (one meaning x) (w ∷ words) left
        meant None is e = absurd cc
        meant (Some y) is e = within y is (over y) refl e

    -- The parser stopped at the first word, which has no meaning or exceeds a limit.
    at_first : (words : List Word) (why : Stop) (left : List Word) → words ≡ left → StopsAt why left
        → ((x : A) (text more : List Word) → Keeps (λ l x. over x ≡ Some l → ⊥) why x → one meaning x text → BeginsWithWords [] words (text ++ more)
        → ⊥)
        → Stops Always (one meaning) (λ l x. over x ≡ Some l → ⊥) words why left
    at_first words why left e named never = record {
      front = [];
      parts = e;
      named = named;
      apart = λ x text more _ k f b. never x text more k f
          (subst (λ (l : List Word). BeginsWithWords [] l (text ++ more)) (sym e) b);
    }

    stop_is : (v w : Stop) (s t : List Word) → stuck_at {A = A} v s ≡ Stuck w t → (v ≡ w) × (s ≡ t)
    stop_is v w s t e = (cc, cc)

    stops_one : (words : List Word) (why : Stop) (left : List Word) → if_meant (meaning_of meaning words) over words ≡ Stuck why left
        → Stops Always (one meaning) (λ l x. over x ≡ Some l → ⊥) words why left
    stops_one [] why left e = at_first [] why left (stop_is Syntax why [] left e).1 (syntax_stops [] why left e)
        (λ x text more k f b. let z : f.word ∷ more ≡ [] = ap (λ (ws : List Word). ws ++ more) (sym f.parts) ∙ b in absurd cc)
    stops_one (w ∷ words) why left e = meant (meaning w) refl e
      where
        first_word : (x : A) (text more : List Word) → one meaning x text → BeginsWithWords [] (w ∷ words) (text ++ more) → meaning w ≡ Some x
        first_word x text more f b =
            let k : f.word ∷ more ≡ w ∷ b.0 = ap (λ (ws : List Word). ws ++ more) (sym f.parts) ∙ b.1 in
            ap meaning (sym (apart_cons f.word w more b.0 k).0) ∙ f.is

        within : (y : A) → meaning w ≡ Some y → (o : Option TreeLimit) → over y ≡ o → unless_over o y (w ∷ words) ≡ Stuck why left
            → Stops Always (one meaning) (λ l x. over x ≡ Some l → ⊥) (w ∷ words) why left
        within y is None kept e = absurd cc
        within y is (Some l) kept e =
            let b = stop_is (stops.Limit l) why (w ∷ words) left e in
            at_first (w ∷ words) why left b.1 (subst (λ (v : Stop). StopsAt v left) b.0
            (record { word = w; more = words; is = sym b.1; named = name_at l w y is kept })) (λ x text more k f h.
            let keeps : over x ≡ Some l → ⊥ = subst (λ (v : Stop). Keeps (λ l x. over x ≡ Some l → ⊥) v x) (sym b.0) k in
            keeps (ap over (some_is x y (sym (first_word x text more f h) ∙ is)) ∙ kept))

        meant : (o : Option A) → meaning w ≡ o → if_meant o over (w ∷ words) ≡ Stuck why left
            → Stops Always (one meaning) (λ l x. over x ≡ Some l → ⊥) (w ∷ words) why left
        meant None is e = at_first (w ∷ words) why left (stop_is Syntax why (w ∷ words) left e).1 (syntax_stops (w ∷ words) why left e)
            (λ x text more k f b. let z = sym is ∙ first_word x text more f b in absurd cc)
        meant (Some y) is e = within y is (over y) refl e
