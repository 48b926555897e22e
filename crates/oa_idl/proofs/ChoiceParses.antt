-- The next word chooses the parser.
use Rattle.std.proofs.Common.{◌≡◌, ℕ, ◌≤◌, Bool, true, false, cond, List, [], ◌++◌, length, refl, sym, ap}
use Rattle.std.proofs.Common.{subst, ◌∙◌, append_assoc}
use Rattle.std.proofs.Math.Logic.{⊎_elim, inl, inr}
use Rattle.oa_idl.specs.declared.stop.TreeLimit.{TreeLimit}
use Rattle.oa_idl.specs.declared.stop.Stop.{Stop}
use Rattle.oa_idl.specs.declared.stop.Stop.TheVariants.{Syntax}
use Rattle.oa_idl.specs.promise.Forms.{Word, Then, ◌▸◌, given, this, optional}
use Rattle.oa_idl.specs.Reading.{Parser, and_then, bind, give, heads, done, choose, later_words, this_at}
use Rattle.oa_idl.specs.Reading.{perhaps_at}
use Rattle.oa_idl.specs.Reading.ReadStep.{Got, Stuck}
use Rattle.oa_idl.proofs.Parses.{Parses, Stops, Takes, begins_heads, got, got_is, stuck_at, test_cases}
use Rattle.oa_idl.proofs.PartParses.{skip_parses}

-- A parser of a part of a form accepts only sequences of the form.
part_takes : {n : ℕ} {C : Type 0} {R : C → Type 0} {F A : C → List Word → Type 0} {K : TreeLimit → C → Type 0} {Q : C → Type 0} {read : Parser C}
    → Parses n R A K Q read → ((c : C) (text : List Word) → R c → A c text → F c text)
    → (words : List Word) (x : C) (left : List Word) → length words ≤ n → read words ≡ Got x left → (R x × Q x) × Takes (F x) words left
part_takes r from words x left le e =
    let h = r.takes words x left le e in
    (h.0, record { text = h.1.text; parts = h.1.parts; form = from x h.1.text h.0.0 h.1.form })

-- It stops where the form does, if each sequence that begins with these words is of the part.
part_stops : {n : ℕ} {C : Type 0} {R : C → Type 0} {F A : C → List Word → Type 0} {K : TreeLimit → C → Type 0} {Q : C → Type 0} {read : Parser C}
    → Parses n R A K Q read → (test : Word → Bool) (words : List Word)
    → ((c : C) (text more : List Word) → R c → F c text → heads test (text ++ more) ≡ heads test words → A c text)
    → (why : Stop) (left : List Word) → length words ≤ n → read words ≡ Stuck why left → Stops R F K words why left
part_stops r test words into why left le e =
    let h = r.stuck words why left le e in
    record {
      front = h.front;
      parts = h.parts;
      named = h.named;
      apart =
          λ c text more s k f b.
          h.apart c text more s k (into c text more s f (sym (begins_heads test h.front left words (text ++ more) h.parts b))) b;
    }

-- A is the part of F that begins with a word that passes the test, B the part that begins with another
pub choose_parses : {n : ℕ} {C : Type 0} {R : C → Type 0} {F A B : C → List Word → Type 0} {K : TreeLimit → C → Type 0} {Q : C
    → Type 0} {first other : Parser C} (test : Word → Bool)
    → ((c : C) (text more : List Word) → R c → F c text → heads test (text ++ more) ≡ true → A c text)
    → ((c : C) (text more : List Word) → R c → F c text → heads test (text ++ more) ≡ false → B c text)
    → ((c : C) (text : List Word) → R c → A c text → F c text) → ((c : C) (text : List Word) → R c → B c text → F c text)
    → Parses n R A K Q first → Parses n R B K Q other → Parses n R F K Q (choose test first other)
unfolding choose
choose_parses {n} {C} {R} {F} {A} {B} {K} {Q} {first} {other} test yes_a no_b from_a from_b r q = record {
  same = λ x y a b s t hx hy f g e. ⊎_elim
      (λ (is : heads test (b ++ t) ≡ true). r.same x y a b s t hx hy (yes_a x a s hx f (ap (heads test) e ∙ is)) (yes_a y b t hy g is) e)
      (λ (is : heads test (b ++ t) ≡ false). q.same x y a b s t hx hy (no_b x a s hx f (ap (heads test) e ∙ is)) (no_b y b t hy g is) e)
      (test_cases (heads test (b ++ t)));
  takes = λ words x left le e. taken words x left le (heads test words) refl e;
  stuck = λ words why left le e. stopped words why left le (heads test words) refl e;
}
  where
    taken : (words : List Word) (x : C) (left : List Word) → length words ≤ n → (v : Bool) → heads test words ≡ v
        → cond v (first words) (other words) ≡ Got x left → (R x × Q x) × Takes (F x) words left
    taken words x left le true is e = part_takes r from_a words x left le e
    taken words x left le false is e = part_takes q from_b words x left le e

    stopped : (words : List Word) (why : Stop) (left : List Word) → length words ≤ n → (v : Bool) → heads test words ≡ v
        → cond v (first words) (other words) ≡ Stuck why left → Stops R F K words why left
    stopped words why left le true is e = part_stops r test words (λ c text more s f k. yes_a c text more s f (k ∙ is)) why left le e
    stopped words why left le false is e = part_stops q test words (λ c text more s f k. no_b c text more s f (k ∙ is)) why left le e

-- No words, and a value that the form determines.
pub given_parses : {n : ℕ} {C : Type 0} {R : C → Type 0} {L : TreeLimit → C → Type 0} {Q : C → Type 0} (v : C) → R v → Q v
    → Parses n R (λ c. given (c ≡ v)) L Q (give v)
unfolding give
given_parses {n} {C} {R} {L} {Q} v hr hq = record {
  same = λ x y a b s t hx hy f g e. (f.fact ∙ sym g.fact, ap (λ (ws : List Word). ws ++ s) (sym f.none) ∙ e ∙ ap (λ (ws : List Word). ws ++ t) g.none);
  takes = λ words x left le e.
      let b = got_is v x words left e in
      ((subst R b.0 hr, subst Q b.0 hq), record { text = []; parts = b.1; form = record { fact = sym b.0; none = refl } });
  stuck = λ words why left le e. absurd cc;
}

pub clash : {b : Bool} → b ≡ true → b ≡ false → ⊥
clash e f = let z = sym e ∙ f in absurd cc

-- the first word of a stretch of one word
pub this_heads : (test : Word → Bool) (text more : List Word) → this test text → heads test (text ++ more) ≡ true
this_heads test text more f = ap (λ (ws : List Word). heads test (ws ++ more)) f.parts ∙ f.is

pub then_heads : {F G : List Word → Type 0} (test : Word → Bool) (v : Bool) (text more : List Word)
    → ((a left : List Word) → F a → heads test (a ++ left) ≡ v) → Then F G text → heads test (text ++ more) ≡ v
then_heads test v text more begins f = ap (λ (ws : List Word). heads test (ws ++ more)) f.parts ∙ ap (heads test) (append_assoc f.front f.back more)
    ∙ begins f.front (f.back ++ more) f.first

-- An optional word, before words that never begin with it.
pub perhaps_parses : {n : ℕ} {C : Type 0} {R : C → Type 0} {G : C → List Word → Type 0} {L : TreeLimit → C → Type 0} {Q : C
    → Type 0} {read : Parser C} (test : Word → Bool)
    → ((c : C) (text more : List Word) → R c → G c text → heads test (text ++ more) ≡ false)
    → Parses n R G L Q read → Parses n R (λ c. optional (this test) ▸ G c) L Q (bind (perhaps_at test) (λ _. read))
unfolding bind choose this_at perhaps_at
perhaps_parses {n} {C} {R} {G} {L} {Q} {read} test free r =
    let p : Parses n R (λ c. optional (this test) ▸ G c) L Q (choose test (bind (this_at test) (λ _. read)) read) =
    choose_parses {A = λ c. this test ▸ G c} {B = G} test yes no from_yes from_no (skip_parses test r) r in
    record {
      same = p.same;
      takes = λ words x left le e. p.takes words x left le (alike words (heads test words) refl ∙ e);
      stuck = λ words why left le e. p.stuck words why left le (alike words (heads test words) refl ∙ e);
    }
  where
    alike : (words : List Word) (v : Bool) → heads test words ≡ v
        → cond (heads test words) (and_then (cond (heads test words) (got done (later_words words)) (stuck_at Syntax words)) (λ _. read))
        (read words) ≡ read (cond (heads test words) (later_words words) words)
    alike words true is = rw is refl
    alike words false is = rw is refl

    yes : (c : C) (text more : List Word) → R c → (optional (this test) ▸ G c) text → heads test (text ++ more) ≡ true
        → (this test ▸ G c) text
    yes c text more h f is = ⊎_elim
        (λ (k : this test f.front). record { front = f.front; back = f.back; parts = f.parts; first = k; second = f.second })
        (λ (k : f.front ≡ []). absurd (clash is (ap (λ (ws : List Word). heads test (ws ++ more)) (f.parts ∙ ap (λ (ws : List Word). ws ++ f.back) k)
        ∙ free c f.back more h f.second)))
        f.first

    no : (c : C) (text more : List Word) → R c → (optional (this test) ▸ G c) text → heads test (text ++ more) ≡ false → G c text
    no c text more h f is = ⊎_elim
        (λ (k : this test f.front). absurd (clash (ap (λ (ws : List Word). heads test (ws ++ more)) f.parts ∙ ap (heads test) (append_assoc f.front f.back more)
        ∙ this_heads test f.front (f.back ++ more) k) is))
        (λ (k : f.front ≡ []). subst (G c) (sym (f.parts ∙ ap (λ (ws : List Word). ws ++ f.back) k)) f.second)
        f.first

    from_yes : (c : C) (text : List Word) → R c → (this test ▸ G c) text → (optional (this test) ▸ G c) text
    from_yes c text h f = record { front = f.front; back = f.back; parts = f.parts; first = inl f.first; second = f.second }

    from_no : (c : C) (text : List Word) → R c → G c text → (optional (this test) ▸ G c) text
    from_no c text h f = record { front = []; back = text; parts = refl; first = inr refl; second = f }
