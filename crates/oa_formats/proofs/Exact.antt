-- What follows for every format.
use Rattle.std.proofs.Common.{◌≡◌, ℕ, suc, ◌-◌, ◌<◌, ◌≤◌, List, [], ◌∷◌, ◌++◌, length, get_or, Some, None, Err, refl, sym, ap, ◌∙◌, arith}
use Rattle.std.specs.List.{AllByRecursion, flat_map}
use Rattle.std.proofs.lemmas.List.{append-nil, length-append}
use Rattle.oa_ndr.specs.promise.Reading.{Cursor, at}
use Rattle.oa_formats.specs.promise.Formats.{Format, IsBytes, same_content}
use Rattle.oa_formats.specs.declared.fault.ReadFault.{ReadFault}
use Rattle.oa_formats.specs.declared.fault.ReadFault.TheVariants as reads
use Rattle.oa_formats.specs.Answers.{ReadsImage, HasBytes, IsFirstLeft, ReadsWholeImage, placed}

pub all_bytes : (xs : List ℕ) → ((i : ℕ) → get_or xs i 0 < 256) → IsBytes xs
all_bytes [] each = tt
all_bytes (x ∷ xs) each = (each 0, all_bytes xs (λ i. each (suc i)))

-- no image begins another
pub no_prefix : {C : Type 0} (F : Format C) (a b : C) (r s : List ℕ) → F.Is a → F.Is b → F.image a ++ r ≡ F.image b ++ s → (a ≡ b) × (r ≡ s)
no_prefix {C} F a b r s ha hb e =
    let one = F.again a 0 r ha in
    let two = F.again b 0 s hb in
    let p = same_content (a, at one.0 r) (b, at two.0 s) (sym one.1 ∙ ap (λ (xs : List ℕ). F.read (at 0 xs)) e ∙ two.1) in
    (ap (λ (y : C × Cursor). y.0) p, ap (λ (y : C × Cursor). y.1.rest) p)

-- two values have two images
pub one_value : {C : Type 0} (F : Format C) (a b : C) → F.Is a → F.Is b → F.image a ≡ F.image b → a ≡ b
one_value F a b ha hb e = (no_prefix F a b [] [] ha hb (ap (λ (xs : List ℕ). xs ++ []) e)).0

-- bytes are the images of one list alone
pub one_list : {C : Type 0} (F : Format C) → HasBytes F → (xs ys : List C) → AllByRecursion F.Is xs → AllByRecursion F.Is ys
    → flat_map F.image xs ≡ flat_map F.image ys → xs ≡ ys
one_list F more [] [] hx hy e = refl
one_list F more [] (y ∷ ys) hx hy e = absurd (omega (arith, more y hy.0, ap length e, length-append (F.image y) (flat_map F.image ys)))
one_list F more (x ∷ xs) [] hx hy e = absurd (omega (arith, more x hx.0, ap length e, length-append (F.image x) (flat_map F.image xs)))
one_list F more (x ∷ xs) (y ∷ ys) hx hy e =
    let p = no_prefix F x y (flat_map F.image xs) (flat_map F.image ys) hx.0 hy.0 e in
    rw (p.0, one_list F more xs ys hx.1 hy.1 p.1) refl

-- ---- whole images

pub read_to_its_end : {C : Type 0} (F : Format C) (bytes : List ℕ) (c : C) (t : Cursor) → IsBytes bytes → F.read (at 0 bytes) ≡ Some (c, t)
    → t.rest ≡ [] → F.Is c × (bytes ≡ F.image c)
read_to_its_end F bytes c t ok e nil =
    let one = F.takes (at 0 bytes) c t ok e in
    (one.0, one.1 ∙ ap (λ (xs : List ℕ). F.image c ++ xs) nil ∙ append-nil (F.image c))

image_read : {C : Type 0} (F : Format C) (bytes : List ℕ) (c : C) → F.Is c → bytes ≡ F.image c
    → (end : ℕ) × (F.read (at 0 bytes) ≡ Some (c, at end []))
image_read F bytes c is same =
    let one = F.again c 0 [] is in
    (one.0, ap (λ (xs : List ℕ). F.read (at 0 xs)) (same ∙ sym (append-nil (F.image c))) ∙ one.1)

pub not_read : {C : Type 0} (F : Format C) (bytes : List ℕ) → F.read (at 0 bytes) ≡ None → (c : C) → F.Is c → bytes ≡ F.image c → ⊥
not_read F bytes h c is same = let one = sym h ∙ (image_read F bytes c is same).1 in absurd cc

pub bytes_left : {C : Type 0} (F : Format C) (bytes : List ℕ) (x : C) (t : Cursor) → F.read (at 0 bytes) ≡ Some (x, t) → (t.rest ≡ [] → ⊥)
    → (c : C) → F.Is c → bytes ≡ F.image c → ⊥
bytes_left {C} F bytes x t h left c is same =
    let one = image_read F bytes c is same in
    let p = same_content (x, t) (c, at one.0 []) (sym h ∙ one.1) in
    left (ap (λ (y : C × Cursor). y.1.rest) p)

-- bytes left over
pub first_left : {C : Type 0} (F : Format C) (bytes : List ℕ) (x : C) (t : Cursor) (place : ℕ) → F.read (at 0 bytes) ≡ Some (x, t)
    → place ≡ length bytes - length t.rest → IsFirstLeft F bytes place
first_left {C} F bytes x t place h here c rest is same =
    let one = F.again c 0 rest is in
    let p = same_content (x, t) (c, at one.0 rest) (sym h ∙ ap (λ (xs : List ℕ). F.read (at 0 xs)) same ∙ one.1) in
    let left : length t.rest ≡ length rest = ap (λ (y : C × Cursor). length y.1.rest) p in
    omega (arith, here, ap length same, length-append (F.image c) rest, left)

-- refused bytes begin with no image
pub none_begins : {C : Type 0} (F : Format C) (bytes : List ℕ) → F.read (at 0 bytes) ≡ None → (c : C) (rest : List ℕ) → F.Is c
    → bytes ≡ F.image c ++ rest → ⊥
none_begins F bytes h c rest is same =
    let one = sym h ∙ ap (λ (xs : List ℕ). F.read (at 0 xs)) same ∙ (F.again c 0 rest is).1 in
    absurd cc

-- where a part was refused
pub refused : {C : Type 0} (F : Format C) (bytes : List ℕ) (e : ReadFault) (t : Cursor) (place : ℕ)
    → ReadsImage {A = C} (Err e) t (F.read (at 0 bytes)) → place ≤ length bytes → ReadsWholeImage {C = C} F bytes (Err (placed e place))
refused F bytes reads.Broken t place h among = (not_read F bytes h, among, λ c rest is same. absurd (none_begins F bytes h c rest is same))
refused F bytes reads.Memory t place h among = tt
