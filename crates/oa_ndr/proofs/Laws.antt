-- A decoder agrees with a form: the bytes that it consumes are of the form, and bytes of the form are decoded again,
-- whatever follows them.
use Rattle.std.proofs.Common.{◌≡◌, ℕ, zero, suc, ◌+◌, ◌≤◌, Bool, true, false, not, cond, ltb, eqb, List, [], ◌∷◌, ◌++◌, length}
use Rattle.std.proofs.Common.{take, drop, Option, Some, None, refl, sym, ap, subst, ◌∙◌, append_assoc, arith}
use Rattle.std.specs.List.{AllByRecursion}
use Rattle.std.proofs.lemmas.Bool.{ltb-false, le-ltb, eqb-true}
use Rattle.std.proofs.lemmas.List.{append-nil, nil_from_length, take_at, drop_at, take-append-drop, length-append, length-take-le}
use Rattle.std.proofs.lemmas.List.{length-drop, drop-append-le, drop-take}
use Rattle.byteorder.specs.Endian.{little_number}
use Rattle.oa_ndr.specs.promise.Forms.{padding, Then, ◌▸◌, align, ignored, unit, exactly, any, with, given, referent}
use Rattle.oa_ndr.specs.promise.Forms.{each, pairwise, made}
use Rattle.oa_ndr.specs.promise.Reading.{Cursor, at, Decoder, and_then, bind, give, fail, bytes_at, many}
use Rattle.oa_ndr.specs.Reading.{choose, align_at, slot_at, unit_at, referent_at, map_at, all_used, whole}

-- The bytes that a decoder has consumed from the front.
pub record Takes (F : ℕ → List ℕ → Type 0) (p : ℕ) (bytes : List ℕ) (t : Cursor) : Type 0 where
  pub text : List ℕ
  pub parts : bytes ≡ text ++ t.rest
  pub place : t.position ≡ p + length text
  pub form : F p text

-- P says which values there are
pub record Reads {C : Type 0} (P : C → Type 0) (F : C → ℕ → List ℕ → Type 0) (read : Cursor → Option (C × Cursor)) : Type 0 where
  pub takes : (p : ℕ) (bytes : List ℕ) (x : C) (t : Cursor) → read (at p bytes) ≡ Some (x, t) → P x × Takes (F x) p bytes t
  pub again : (p : ℕ) (text rest : List ℕ) (x : C) → P x → F x p text → read (at p (text ++ rest)) ≡ Some (x, at (p + length text) rest)

abbrev pub Always : {A : Type 0} → A → Type 0
Always x = Unit {0}

-- ---- options

abbrev some : {A : Type 0} → A → Option A
some x = Some x

-- A value and the rest.
abbrev done : {A : Type 0} → A → Cursor → Option (A × Cursor)
done x t = Some (x, t)

some_is : {A : Type 0} (x y : A) → some x ≡ some y → x ≡ y
some_is x y e = cc

bind_some : {A B : Type 0} (r : Option (A × Cursor)) (next : A → Decoder B) (y : B × Cursor) → and_then r next ≡ Some y → (x : A × Cursor) × (r ≡ Some x)
    × (next x.0 x.1 ≡ Some y)
bind_some None next y e = absurd cc
bind_some (Some x) next y e = (x, refl, e)

guard_some : {A : Type 0} (b : Bool) (x y : A) → cond b None (Some x) ≡ Some y → (b ≡ false) × (x ≡ y)
guard_some true x y e = absurd cc
guard_some false x y e = (refl, cc)

-- ---- tests

pub give_reads : {C : Type 0} {P Q : C → Type 0} (v : C) → P v → Q v → ((c : C) → P c → Q c → c ≡ v) → Reads P (λ c. given (Q c)) (give v)
unfolding give
give_reads {C} {P} {Q} v hp hq only = record {
  takes = λ p bytes c t e.
      subst (λ (y : C × Cursor). P y.0 × Takes (given (Q y.0)) p bytes y.1) (some_is (v, at p bytes) (c, t) e)
      (hp, record { text = []; parts = refl; place = omega arith; form = record { fact = hq; none = refl } });
  again = λ p text rest c h form. rw (form.none, only c h form.fact) (ap (λ (n : ℕ). done v (at n rest)) (omega arith));
}

pub fail_reads : {C : Type 0} {P : C → Type 0} {F : C → ℕ → List ℕ → Type 0} → ((c : C) (p : ℕ) (text : List ℕ) → P c → F c p text → ⊥) → Reads P F fail
unfolding fail
fail_reads never = record { takes = λ p bytes c t e. absurd cc; again = λ p text rest c h form. absurd (never c p text h form) }

pub choose_reads : {C : Type 0} {P : C → Type 0} {F : C → ℕ → List ℕ → Type 0} {one other : Decoder C} (b : Bool)
    → (b ≡ true → Reads P F one) → (b ≡ false → Reads P F other) → Reads P F (choose b one other)
unfolding choose
choose_reads true r q = record { takes = (r refl).takes; again = (r refl).again }
choose_reads false r q = record { takes = (q refl).takes; again = (q refl).again }

-- a value without bytes
pub none_reads : {C : Type 0} {P : C → Type 0} {F : C → ℕ → List ℕ → Type 0} (v : C) → P v → ((p : ℕ) → F v p [])
    → ((c : C) (p : ℕ) (text : List ℕ) → P c → F c p text → (c ≡ v) × (text ≡ [])) → Reads P F (give v)
unfolding give
none_reads {C} {P} {F} v hp form only = record {
  takes = λ p bytes c t e.
      subst (λ (y : C × Cursor). P y.0 × Takes (F y.0) p bytes y.1) (some_is (v, at p bytes) (c, t) e)
      (hp, record { text = []; parts = refl; place = omega arith; form = form p });
  again = λ p text rest c h is.
      let one = only c p text h is in
      rw (one.1, one.0) (ap (λ (n : ℕ). done v (at n rest)) (omega arith));
}

-- ---- parts

front : (F : ℕ → List ℕ → Type 0) (p k : ℕ) (bytes : List ℕ) → k ≤ length bytes → F p (take k bytes) → Takes F p bytes (at (p + k) (drop k bytes))
front F p k bytes le form = record {
  text = take k bytes;
  parts = sym (take-append-drop k bytes);
  place = ap (λ (n : ℕ). p + n) (sym (length-take-le k bytes le));
  form = form;
}

slot_again : (pad n p : ℕ) (text rest : List ℕ) → length text ≡ pad + n
    → cond {A = Option (List ℕ × Cursor)} (ltb (length (text ++ rest)) (pad + n)) None
    (Some (take n (drop pad (text ++ rest)), at (p + (pad + n)) (drop (pad + n) (text ++ rest)))) ≡ Some (drop pad text, at (p + length text) rest)
slot_again pad n p text rest len =
    let long : ltb (length (text ++ rest)) (pad + n) ≡ false = le-ltb _ _ (omega (arith, length-append text rest)) in
    let low : pad ≤ length text = omega arith in
    let width : length (drop pad text) ≡ n = omega (arith, length-drop pad text) in
    rw (long, drop-append-le pad text rest low, take_at (drop pad text) rest n width, drop_at text rest (pad + n) len, len) refl

pub unit_reads : (n : ℕ) → Reads Always (unit n) (unit_at n)
unfolding unit_at bind give slot_at
unit_reads n = record {
  takes = λ p bytes x t e.
      let b = bind_some (slot_at n (at p bytes)) (λ y. give (little_number n y)) (x, t) e in
      let g = guard_some (ltb (length bytes) (padding n p + n)) (take n (drop (padding n p) bytes), at (p + (padding n p + n)) (drop (padding n p + n) bytes))
      b.0 b.1 in
      let le : padding n p + n ≤ length bytes = ltb-false _ _ g.0 in
      let made = some_is (little_number n b.0.0, b.0.1) (x, t) b.2 in
      let value : little_number n (drop (padding n p) (take (padding n p + n) bytes)) ≡ x =
      ap (little_number n) (drop-take (padding n p) n bytes ∙ ap (λ (y : List ℕ × Cursor). y.0) g.1) ∙ ap (λ (y : ℕ × Cursor). y.0) made in
      let end : at (p + (padding n p + n)) (drop (padding n p + n) bytes) ≡ t = ap (λ (y : List ℕ × Cursor). y.1) g.1 ∙ ap (λ (y : ℕ × Cursor). y.1) made in (
        tt,
        subst (Takes (unit n x) p bytes) end
            (front (unit n x) p (padding n p + n) bytes le (record { len = length-take-le (padding n p + n) bytes le; value = value })),
      );
  again = λ p text rest x _ form.
      ap (λ (o : Option (List ℕ × Cursor)). and_then o (λ y. give (little_number n y))) (slot_again (padding n p) n p text rest form.len)
      ∙ ap (λ (k : ℕ). Some (k, at (p + length text) rest)) form.value;
}

pub bytes_reads : (n : ℕ) → Reads (λ xs. length xs ≡ n) exactly (bytes_at n)
unfolding bytes_at
bytes_reads n = record {
  takes = λ p bytes x t e.
      let g = guard_some (ltb (length bytes) n) (take n bytes, at (p + n) (drop n bytes)) (x, t) e in
      let le : n ≤ length bytes = ltb-false _ _ g.0 in
      let same : take n bytes ≡ x = ap (λ (y : List ℕ × Cursor). y.0) g.1 in
      let end : at (p + n) (drop n bytes) ≡ t = ap (λ (y : List ℕ × Cursor). y.1) g.1 in
      (ap length (sym same) ∙ length-take-le n bytes le, subst (Takes (exactly x) p bytes) end (front (exactly x) p n bytes le same));
  again = λ p text rest x len form.
      let whole_text : length text ≡ n = ap length form ∙ len in
      let long : ltb (length (text ++ rest)) n ≡ false = le-ltb _ _ (omega (arith, length-append text rest)) in
      rw (long, take_at text rest n whole_text, drop_at text rest n whole_text, form, len) refl;
}

pub align_reads : (n : ℕ) → Reads Always (λ _. align n) (align_at n)
unfolding align_at
align_reads n = record {
  takes = λ p bytes x t e.
      let g = guard_some (ltb (length bytes) (padding n p)) (tt, at (p + padding n p) (drop (padding n p) bytes)) (x, t) e in
      let le : padding n p ≤ length bytes = ltb-false _ _ g.0 in (
        tt,
        subst (Takes (align n) p bytes) (ap (λ (y : Unit {0} × Cursor). y.1) g.1)
            (front (align n) p (padding n p) bytes le (length-take-le (padding n p) bytes le)),
      );
  again = λ p text rest x _ form. align_again (padding n p) p text rest form;
}
  where
    align_again : (pad p : ℕ) (text rest : List ℕ) → length text ≡ pad → cond {A = Option (Unit {0} × Cursor)} (ltb (length (text ++ rest)) pad) None
        (Some (tt, at (p + pad) (drop pad (text ++ rest)))) ≡ Some (tt, at (p + length text) rest)
    align_again pad p text rest len =
        let long : ltb (length (text ++ rest)) pad ≡ false = le-ltb _ _ (omega (arith, length-append text rest)) in
        rw (long, drop_at text rest pad len, len) refl

-- ---- one part after another

joined : {F G : ℕ → List ℕ → Type 0} (p : ℕ) (bytes : List ℕ) (s t : Cursor) → Takes F p bytes s → Takes G s.position s.rest t → Takes (F ▸ G) p bytes t
joined {F} {G} p bytes s t a b = record {
  text = a.text ++ b.text;
  parts = a.parts ∙ ap (λ (r : List ℕ). a.text ++ r) b.parts ∙ sym (append_assoc a.text b.text t.rest);
  place = omega (arith, a.place, b.place, length-append a.text b.text);
  form = record { front = a.text; back = b.text; parts = refl; first = a.form; second = subst (λ (q : ℕ). G q b.text) a.place b.form };
}

-- two readings one after the other, again
again_both : {A C : Type 0} {F : ℕ → List ℕ → Type 0} {G : ℕ → List ℕ → Type 0} (read : Decoder A) (next : A → Decoder C) (p : ℕ) (text rest : List ℕ) (a : A)
    (c : C) (form : Then F G p text)
    → ((more : List ℕ) → read (at p (form.front ++ more)) ≡ Some (a, at (p + length form.front) more))
    → next a (at (p + length form.front) (form.back ++ rest)) ≡ Some (c, at (p + length form.front + length form.back) rest)
    → bind read next (at p (text ++ rest)) ≡ Some (c, at (p + length text) rest)
unfolding bind
again_both {A} {C} read next p text rest a c form one two =
    let regrouped : text ++ rest ≡ form.front ++ (form.back ++ rest) = ap (λ (y : List ℕ). y ++ rest) form.parts ∙ append_assoc form.front form.back rest in
    let past : p + length form.front + length form.back ≡ p + length text = omega (arith, ap length form.parts, length-append form.front form.back) in
    ap (λ (y : List ℕ). and_then (read (at p y)) next) regrouped
    ∙ ap (λ (o : Option (A × Cursor)). and_then o next) (one (form.back ++ rest))
    ∙ two ∙ ap (λ (n : ℕ). done c (at n rest)) past

-- a part of which the value that is made keeps proj
pub bind_reads : {A C : Type 0} {PA : A → Type 0} (F : A → ℕ → List ℕ → Type 0) {P : C → Type 0} {G : C → ℕ → List ℕ → Type 0}
    (proj : C → A) {read : Decoder A} {next : A → Decoder C}
    → Reads PA F read → ((c : C) → P c → PA (proj c)) → ((a : A) → PA a → Reads (λ c. P c × (proj c ≡ a)) G (next a))
    → Reads P (λ c. F (proj c) ▸ G c) (bind read next)
unfolding bind
bind_reads {A} {C} F {P} {G} proj {read} {next} r has then = record {
  takes = λ p bytes c t e.
      let b = bind_some (read (at p bytes)) next (c, t) e in
      let first = r.takes p bytes b.0.0 b.0.1 b.1 in
      let second = (then b.0.0 first.0).takes b.0.1.position b.0.1.rest c t b.2 in
      let kept = subst (λ (a : A). Takes (F a) p bytes b.0.1) (sym second.0.1) first.1 in
      (second.0.0, joined p bytes b.0.1 t kept second.1);
  again = λ p text rest c h form.
      again_both read next p text rest (proj c) c form (λ more. r.again p form.front more (proj c) (has c h) form.first)
      ((then (proj c) (has c h)).again (p + length form.front) form.back rest c (h, refl) form.second);
}

-- A part that determines the following ones.
pub with_reads : {A C : Type 0} {PA : A → Type 0} {F : A → ℕ → List ℕ → Type 0} {P : C → Type 0} {G : A → C → ℕ → List ℕ → Type 0} {read : Decoder A}
    {next : A → Decoder C}
    → Reads PA F read → ((c : C) (a : A) (p : ℕ) (text : List ℕ) → P c → G a c p text → PA a) → ((a : A) → PA a → Reads P (G a) (next a))
    → Reads P (λ c. with F (λ a. G a c)) (bind read next)
unfolding bind
with_reads {A} {C} {PA} {F} {P} {G} {read} {next} r has then = record {
  takes = λ p bytes c t e.
      let b = bind_some (read (at p bytes)) next (c, t) e in
      let first = r.takes p bytes b.0.0 b.0.1 b.1 in
      let second = (then b.0.0 first.0).takes b.0.1.position b.0.1.rest c t b.2 in
      let both = joined p bytes b.0.1 t first.1 second.1 in
      (second.0, record { text = both.text; parts = both.parts; place = both.place; form = record { value = b.0.0; form = both.form } });
  again = λ p text rest c h form.
      let a = form.value in
      let fits = has c a (p + length form.form.front) form.form.back h form.form.second in
      again_both read next p text rest a c form.form (λ more. r.again p form.form.front more a fits form.form.first)
      ((then a fits).again (p + length form.form.front) form.form.back rest c h form.form.second);
}

-- a part of which nothing is kept
pub skip_reads : {A C : Type 0} {PA : A → Type 0} {FA : A → ℕ → List ℕ → Type 0} {P : C → Type 0} {F G : C → ℕ → List ℕ → Type 0} {read : Decoder A}
    {next : Decoder C}
    → Reads PA FA read → ((c : C) (a : A) (p : ℕ) (text : List ℕ) → P c → PA a → FA a p text → F c p text)
    → ((c : C) (p : ℕ) (text : List ℕ) → P c → F c p text → (a : A) × PA a × FA a p text)
    → Reads P G next → Reads P (λ c. F c ▸ G c) (bind read (λ _. next))
unfolding bind
skip_reads {A} {C} {PA} {FA} {P} {F} {G} {read} {next} r out into then = record {
  takes = λ p bytes c t e.
      let b = bind_some (read (at p bytes)) (λ _. next) (c, t) e in
      let first = r.takes p bytes b.0.0 b.0.1 b.1 in
      let second = then.takes b.0.1.position b.0.1.rest c t b.2 in
      let one : Takes (F c) p bytes b.0.1 = record {
        text = first.1.text;
        parts = first.1.parts;
        place = first.1.place;
        form = out c b.0.0 p first.1.text second.0 first.0 first.1.form;
      } in
      (second.0, joined p bytes b.0.1 t one second.1);
  again = λ p text rest c h form.
      let a = into c p form.front h form.first in
      again_both read (λ _. next) p text rest a.0 c form (λ more. r.again p form.front more a.0 a.1 a.2)
      (then.again (p + length form.front) form.back rest c h form.second);
}

pub ignored_then : {C : Type 0} {P : C → Type 0} {G : C → ℕ → List ℕ → Type 0} {next : Decoder C} (n : ℕ) → Reads P G next
    → Reads P (λ c. ignored n ▸ G c) (bind (unit_at n) (λ _. next))
ignored_then n then = skip_reads (unit_reads n) (λ c x p text _ _ form. form.len)
    (λ c p text _ len. (little_number n (drop (padding n p) text), tt, record { len = len; value = refl })) then

pub align_then : {C : Type 0} {P : C → Type 0} {G : C → ℕ → List ℕ → Type 0} {next : Decoder C} (n : ℕ) → Reads P G next
    → Reads P (λ c. align n ▸ G c) (bind (align_at n) (λ _. next))
align_then n then = skip_reads (align_reads n) (λ c x p text _ _ form. form) (λ c p text _ form. (tt, tt, form)) then

-- the number of bytes may hang on the value
pub any_then : {C : Type 0} {P : C → Type 0} {G : C → ℕ → List ℕ → Type 0} {next : Decoder C} (n : ℕ) (count : C → ℕ) → ((c : C) → P c → count c ≡ n)
    → Reads P G next → Reads P (λ c. any (count c) ▸ G c) (bind (bytes_at n) (λ _. next))
any_then n count same then = skip_reads (bytes_reads n) (λ c x p text h len form. ap length form ∙ len ∙ sym (same c h))
    (λ c p text h len. (text, len ∙ same c h, refl)) then

-- The same values, with another condition.
pub same_values : {C : Type 0} {P Q : C → Type 0} {F : C → ℕ → List ℕ → Type 0} {read : Decoder C} → Reads P F read → ((c : C) → P c → Q c)
    → ((c : C) → Q c → P c) → Reads Q F read
same_values r to from = record {
  takes = λ p bytes c t e. let one = r.takes p bytes c t e in (to c one.0, one.1);
  again = λ p text rest c h form. r.again p text rest c (from c h) form;
}

pub referent_reads : Reads Always referent referent_at
unfolding referent_at
referent_reads = with_reads (unit_reads 4) (λ c a p text _ _. tt) (λ a _. give_reads (not (eqb a 0)) tt refl (λ c _ e. e))

-- One kind of value among several: the bytes that are consumed are decoded again.
pub made_takes : {A C : Type 0} {PA : A → Type 0} (P : C → Type 0) (F : C → ℕ → List ℕ → Type 0) (make : A → C) {read : Decoder A}
    → Reads PA (λ a. F (make a)) read → ((a : A) → PA a → P (make a))
    → (p : ℕ) (bytes : List ℕ) (c : C) (t : Cursor) → bind read (λ a. give (make a)) (at p bytes) ≡ Some (c, t) → P c × Takes (F c) p bytes t
unfolding bind give
made_takes {A} {C} P F make {read} r in_P p bytes c t e =
    let b = bind_some (read (at p bytes)) (λ a. give (make a)) (c, t) e in
    let made = some_is (make b.0.0, b.0.1) (c, t) b.2 in
    let one = r.takes p bytes b.0.0 b.0.1 b.1 in
    subst (λ (y : C × Cursor). P y.0 × Takes (F y.0) p bytes y.1) made (in_P b.0.0 one.0, one.1)

pub made_again : {A C : Type 0} {PA : A → Type 0} (F : C → ℕ → List ℕ → Type 0) (make : A → C) {read : Decoder A}
    → Reads PA (λ a. F (make a)) read → (p : ℕ) (text rest : List ℕ) (a : A) → PA a → F (make a) p text
    → bind read (λ a. give (make a)) (at p (text ++ rest)) ≡ Some (make a, at (p + length text) rest)
unfolding bind give
made_again {A} {C} F make {read} r p text rest a h form =
    ap (λ (o : Option (A × Cursor)). and_then o (λ a. give (make a))) (r.again p text rest a h form)

-- a value made of the last part
pub made_reads : {A C : Type 0} {PA : A → Type 0} {P : C → Type 0} {F : C → ℕ → List ℕ → Type 0} (make : A → C) {read : Decoder A}
    → Reads PA (λ a. F (make a)) read → ((a : A) → PA a → P (make a)) → ((c : C) (p : ℕ) (text : List ℕ) → P c → F c p text → (a : A) × PA a × (make a ≡ c))
    → Reads P F (bind read (λ a. give (make a)))
made_reads {A} {C} {PA} {P} {F} make {read} r in_P of = record {
  takes = made_takes P F make r in_P;
  again = λ p text rest c h form.
      let a = of c p text h form in
      subst (λ (y : C). bind read (λ a. give (make a)) (at p (text ++ rest)) ≡ Some (y, at (p + length text) rest)) a.2
      (made_again F make r p text rest a.0 a.1 (subst (λ (y : C). F y p text) (sym a.2) form));
}

-- a value without bytes
pub nothing_takes : {C : Type 0} (P : C → Type 0) (F : C → ℕ → List ℕ → Type 0) (made : C) → P made → ((p : ℕ) → F made p [])
    → (p : ℕ) (bytes : List ℕ) (c : C) (t : Cursor) → give made (at p bytes) ≡ Some (c, t) → P c × Takes (F c) p bytes t
unfolding give
nothing_takes {C} P F made h form p bytes c t e =
    subst (λ (y : C × Cursor). P y.0 × Takes (F y.0) p bytes y.1) (some_is (made, at p bytes) (c, t) e)
    (h, record { text = []; parts = refl; place = omega arith; form = form p })

pub nothing_again : {C : Type 0} (made : C) (p : ℕ) (text rest : List ℕ) → text ≡ [] → give made (at p (text ++ rest)) ≡ Some (made, at (p + length text) rest)
unfolding give
nothing_again made p text rest e = rw e (ap (λ (n : ℕ). done made (at n rest)) (omega arith))

-- ---- each of a list

pub many_reads : {A : Type 0} {P : A → Type 0} {F : A → ℕ → List ℕ → Type 0} {read : Decoder A} → Reads P F read
    → (n : ℕ) → Reads {C = List A} (λ xs. (length xs ≡ n) × AllByRecursion P xs) (each F) (many read n)
unfolding many bind give
many_reads {A} {P} {F} {read} r zero = record {
  takes = λ p bytes xs t e. nothing_takes (λ (ys : List A). (length ys ≡ 0) × AllByRecursion P ys) (each F) [] (refl, tt) (λ q. refl) p bytes xs t e;
  again = λ p text rest xs h form. none p text rest xs h.0 form;
}
  where
    none : (p : ℕ) (text rest : List ℕ) (xs : List A) → length xs ≡ 0 → each F xs p text → give {A = List A} [] (at p (text ++ rest)) ≡ done xs
        (at (p + length text) rest)
    none p text rest [] h form = nothing_again [] p text rest form
    none p text rest (x ∷ xs) h form = absurd (omega arith)
many_reads {A} {P} {F} {read} r (suc n) = record {
  takes = λ p bytes xs t e. takes_more (many_reads r n) p bytes xs t e;
  again = λ p text rest xs h form. more (many_reads r n) p text rest xs h.0 h.1 form;
}
  where
    takes_more : Reads {C = List A} (λ xs. (length xs ≡ n) × AllByRecursion P xs) (each F) (many read n) → (p : ℕ) (bytes : List ℕ) (xs : List A) (t : Cursor)
        → bind read (λ first. bind (many read n) (λ others. give (first ∷ others))) (at p bytes) ≡ Some (xs, t) → ((length xs ≡ suc n) × AllByRecursion P xs)
        × Takes (each F xs) p bytes t
    takes_more ih p bytes xs t e =
        let b = bind_some (read (at p bytes)) (λ first. bind (many read n) (λ others. give (first ∷ others))) (xs, t) e in
        let d = bind_some (many read n b.0.1) (λ others. give (b.0.0 ∷ others)) (xs, t) b.2 in
        let first = r.takes p bytes b.0.0 b.0.1 b.1 in
        let others = ih.takes b.0.1.position b.0.1.rest d.0.0 d.0.1 d.1 in
        let both = joined p bytes b.0.1 d.0.1 first.1 others.1 in
        subst (λ (y : List A × Cursor). ((length y.0 ≡ suc n) × AllByRecursion P y.0) × Takes (each F y.0) p bytes y.1)
        (some_is (b.0.0 ∷ d.0.0, d.0.1) (xs, t) d.2) ((ap suc others.0.0, (first.0, others.0.1)), both)

    more : Reads {C = List A} (λ xs. (length xs ≡ n) × AllByRecursion P xs) (each F) (many read n) → (p : ℕ) (text rest : List ℕ) (xs : List A)
        → length xs ≡ suc n → AllByRecursion P xs → each F xs p text
        → bind read (λ first. bind (many read n) (λ others. give (first ∷ others))) (at p (text ++ rest)) ≡ Some (xs, at (p + length text) rest)
    more ih p text rest [] h all form = absurd (omega arith)
    more ih p text rest (x ∷ xs) h all form =
        let two = ih.again (p + length form.front) form.back rest xs (omega arith, all.1) form.second in
        again_both read (λ first. bind (many read n) (λ others. give (first ∷ others))) p text rest x (x ∷ xs) form
        (λ rest_of. r.again p form.front rest_of x all.0 form.first)
        (ap (λ (o : Option (List A × Cursor)). and_then o (λ others. give (x ∷ others))) two)

pub all_always : {A : Type 0} (xs : List A) → AllByRecursion Always xs
all_always [] = tt
all_always (x ∷ xs) = (tt, all_always xs)

pub pairwise_reads : {A B : Type 0} {P : B → Type 0} {F : A → B → ℕ → List ℕ → Type 0} {read : A → Decoder B} → ((x : A) → Reads P (F x) (read x))
    → (xs : List A) → Reads {C = List B} (λ ys. (length ys ≡ length xs) × AllByRecursion P ys) (pairwise F xs) (map_at read xs)
unfolding map_at bind give
pairwise_reads {A} {B} {P} {F} {read} r [] = none_reads [] (refl, tt) (λ p. refl) only
  where
    only : (ys : List B) (p : ℕ) (text : List ℕ) → (length ys ≡ 0) × AllByRecursion P ys → pairwise F [] ys p text → (ys ≡ []) × (text ≡ [])
    only [] p text h form = (refl, form)
    only (y ∷ ys) p text h form = absurd form.fact
pairwise_reads {A} {B} {P} {F} {read} r (x ∷ xs) = record {
  takes = λ p bytes ys t e. takes_more (pairwise_reads r xs) p bytes ys t e;
  again = λ p text rest ys h form. more (pairwise_reads r xs) p text rest ys h form;
}
  where
    takes_more : Reads {C = List B} (λ ys. (length ys ≡ length xs) × AllByRecursion P ys) (pairwise F xs) (map_at read xs)
        → (p : ℕ) (bytes : List ℕ) (ys : List B) (t : Cursor)
        → bind (read x) (λ first. bind (map_at read xs) (λ others. give (first ∷ others))) (at p bytes) ≡ Some (ys, t)
        → ((length ys ≡ suc (length xs)) × AllByRecursion P ys) × Takes (pairwise F (x ∷ xs) ys) p bytes t
    takes_more ih p bytes ys t e =
        let b = bind_some (read x (at p bytes)) (λ first. bind (map_at read xs) (λ others. give (first ∷ others))) (ys, t) e in
        let d = bind_some (map_at read xs b.0.1) (λ others. give (b.0.0 ∷ others)) (ys, t) b.2 in
        let first = (r x).takes p bytes b.0.0 b.0.1 b.1 in
        let others = ih.takes b.0.1.position b.0.1.rest d.0.0 d.0.1 d.1 in
        let both = joined p bytes b.0.1 d.0.1 first.1 others.1 in
        subst (λ (y : List B × Cursor). ((length y.0 ≡ suc (length xs)) × AllByRecursion P y.0) × Takes (pairwise F (x ∷ xs) y.0) p bytes y.1)
        (some_is (b.0.0 ∷ d.0.0, d.0.1) (ys, t) d.2) ((ap suc others.0.0, (first.0, others.0.1)), both)

    more : Reads {C = List B} (λ ys. (length ys ≡ length xs) × AllByRecursion P ys) (pairwise F xs) (map_at read xs)
        → (p : ℕ) (text rest : List ℕ) (ys : List B) → (length ys ≡ suc (length xs)) × AllByRecursion P ys → pairwise F (x ∷ xs) ys p text
        → bind (read x) (λ first. bind (map_at read xs) (λ others. give (first ∷ others))) (at p (text ++ rest)) ≡ Some (ys, at (p + length text) rest)
    more ih p text rest [] all form = absurd form.fact
    more ih p text rest (y ∷ ys) all form =
        let two = ih.again (p + length form.front) form.back rest ys (omega (arith, all.0), all.1.1) form.second in
        again_both (read x) (λ first. bind (map_at read xs) (λ others. give (first ∷ others))) p text rest y (y ∷ ys) form
        (λ rest_of. (r x).again p form.front rest_of y all.1.0 form.first)
        (ap (λ (o : Option (List B × Cursor)). and_then o (λ others. give (y ∷ others))) two)

pub pairwise_length : {A B : Type 0} (F : A → B → ℕ → List ℕ → Type 0) (xs : List A) (ys : List B) (p : ℕ) (text : List ℕ) → pairwise F xs ys p text
    → length xs ≡ length ys
pairwise_length F [] [] p text form = refl
pairwise_length F (x ∷ xs) (y ∷ ys) p text form = ap suc (pairwise_length F xs ys (p + length form.front) form.back form.second)
pairwise_length F [] (y ∷ ys) p text form = absurd form.fact
pairwise_length F (x ∷ xs) [] p text form = absurd form.fact

-- a value made of another
pub made_from : {A C : Type 0} {PA : A → Type 0} {F : A → ℕ → List ℕ → Type 0} (make : A → C) {read : Decoder A} → Reads PA F read → ((a : A) → PA a)
    → Reads Always (made make F) (bind read (λ a. give (make a)))
unfolding bind give
made_from {A} {C} {PA} {F} make {read} r has = record {
  takes = λ p bytes c t e.
      let b = bind_some (read (at p bytes)) (λ a. give (make a)) (c, t) e in
      let one = (r.takes p bytes b.0.0 b.0.1 b.1).1 in (
        tt,
        subst (λ (y : C × Cursor). Takes (made make F y.0) p bytes y.1) (some_is (make b.0.0, b.0.1) (c, t) b.2)
            (record { text = one.text; parts = one.parts; place = one.place; form = record { value = b.0.0; is = refl; form = one.form } }),
      );
  again = λ p text rest c _ form.
      ap (λ (o : Option (A × Cursor)). and_then o (λ a. give (make a))) (r.again p text rest form.value (has form.value) form.form)
      ∙ ap (λ (y : C). done y (at (p + length text) rest)) form.is;
}

-- a fact that the values have anyway
pub given_then : {C : Type 0} {P Q : C → Type 0} {F : C → ℕ → List ℕ → Type 0} {read : Decoder C} → ((c : C) → P c → Q c) → Reads P F read
    → Reads P (λ c. given (Q c) ▸ F c) read
given_then {C} {P} {Q} {F} {read} has r = record {
  takes = λ p bytes c t e.
      let one = r.takes p bytes c t e in (
        one.0,
        record {
          text = one.1.text;
          parts = one.1.parts;
          place = one.1.place;
          form = record {
            front = [];
            back = one.1.text;
            parts = refl;
            first = record { fact = has c one.0; none = refl };
            second = subst
                (λ (q : ℕ). F c q one.1.text) (omega arith) one.1.form;
          };
        },
      );
  again = λ p text rest c h form.
      let same : text ≡ form.back = form.parts ∙ ap (λ (y : List ℕ). y ++ form.back) form.first.none in
      let place : p + length form.front ≡ p = omega (arith, ap length form.first.none) in
      r.again p text rest c h (subst (λ (q : ℕ). F c q text) place (subst (F c (p + length form.front)) (sym same) form.second));
}

-- A fact about the values, as a part of the form.
pub told_reads : {C : Type 0} {P : C → Type 0} {F : C → ℕ → List ℕ → Type 0} {read : Decoder C} → Reads P F read → Reads Always (λ c. given (P c) ▸ F c) read
told_reads {C} {P} {F} {read} r = record {
  takes = λ p bytes c t e.
      let one = r.takes p bytes c t e in (
        tt,
        record {
          text = one.1.text;
          parts = one.1.parts;
          place = one.1.place;
          form = record {
            front = [];
            back = one.1.text;
            parts = refl;
            first = record { fact = one.0; none = refl };
            second = subst
                (λ (q : ℕ). F c q one.1.text) (omega arith) one.1.form;
          };
        },
      );
  again = λ p text rest c _ form.
      let same : text ≡ form.back = form.parts ∙ ap (λ (y : List ℕ). y ++ form.back) form.first.none in
      let place : p + length form.front ≡ p = omega (arith, ap length form.first.none) in
      r.again p text rest c form.first.fact (subst (λ (q : ℕ). F c q text) place (subst (F c (p + length form.front)) (sym same) form.second));
}

-- ---- a whole field

pub whole_takes : {C : Type 0} {P : C → Type 0} {F : C → ℕ → List ℕ → Type 0} {read : Decoder C} → Reads P F read → (bytes : List ℕ) (c : C)
    → whole read bytes ≡ Some c → P c × F c 0 bytes
whole_takes {C} {P} {F} {read} r bytes c e =
    let b = used (read (at 0 bytes)) c e in
    let one = r.takes 0 bytes b.0.0 b.0.1 b.1 in
    let no_rest : b.0.1.rest ≡ [] = nil_from_length b.0.1.rest b.2.0 in
    let same : one.1.text ≡ bytes = sym (append-nil one.1.text) ∙ ap (λ (y : List ℕ). one.1.text ++ y) (sym no_rest) ∙ sym one.1.parts in
    subst (λ (y : C). P y × F y 0 bytes) b.2.1 (one.0, subst (λ (y : List ℕ). F b.0.0 0 y) same one.1.form)
  where
    ended : (b : Bool) (x y : C) → cond b (Some x) None ≡ Some y → (b ≡ true) × (x ≡ y)
    ended true x y e = (refl, cc)
    ended false x y e = absurd cc

    used : (o : Option (C × Cursor)) (y : C) → all_used o ≡ Some y → (x : C × Cursor) × (o ≡ Some x) × ((length x.1.rest ≡ 0) × (x.0 ≡ y))
    used None y e = absurd cc
    used (Some x) y e = let g = ended (eqb (length x.1.rest) 0) x.0 y e in (x, refl, (eqb-true _ _ g.0, g.1))

pub whole_again : {C : Type 0} {P : C → Type 0} {F : C → ℕ → List ℕ → Type 0} {read : Decoder C} → Reads P F read → (bytes : List ℕ) (c : C) → P c → F c 0 bytes
    → whole read bytes ≡ Some c
whole_again {C} {P} {F} {read} r bytes c h form =
    let one : read (at 0 bytes) ≡ Some (c, at (0 + length bytes) []) = ap (λ (y : List ℕ). read (at 0 y)) (sym (append-nil bytes))
    ∙ r.again 0 bytes [] c h form in
    ap all_used one

-- no bytes spell two values
pub one_value : {C : Type 0} {P : C → Type 0} {F : C → ℕ → List ℕ → Type 0} {read : Decoder C} → Reads P F read → (bytes : List ℕ) (c d : C) → P c → F c 0 bytes
    → P d → F d 0 bytes → c ≡ d
one_value r bytes c d hc fc hd fd = some_is c d (sym (whole_again r bytes c hc fc) ∙ whole_again r bytes d hd fd)

-- no spelling is a proper prefix of another
pub no_proper_prefix : {C : Type 0} {P : C → Type 0} {F : C → ℕ → List ℕ → Type 0} {read : Decoder C} → Reads P F read
    → (a rest : List ℕ) (c d : C) → P c → F c 0 a → P d → F d 0 (a ++ rest) → rest ≡ []
no_proper_prefix {C} {P} {F} {read} r a rest c d hc fc hd fd =
    let one = r.again 0 a rest c hc fc in
    let two = r.again 0 (a ++ rest) [] d hd fd in
    let same : done c (at (0 + length a) rest) ≡ done d (at (0 + length (a ++ rest)) []) = sym one
    ∙ ap (λ (y : List ℕ). read (at 0 y)) (sym (append-nil (a ++ rest))) ∙ two in
    ap (λ (y : C × Cursor). y.1.rest) (some_is (c, at (0 + length a) rest) (d, at (0 + length (a ++ rest)) []) same)
