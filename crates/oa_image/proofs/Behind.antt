-- What stands in an image behind the parts that were read.
use Rattle.std.proofs.Common.{◌≡◌, ℕ, ◌+◌, ◌^◌, ◌<◌, ◌≤◌, Bool, true, false, cond, eqb, ltb, List, [], ◌∷◌, ◌++◌, length, Option, None}
use Rattle.std.proofs.Common.{refl, sym, ap, subst, ◌∙◌, append_assoc, append-nil, arith}
use Rattle.std.specs.List.{AllByRecursion, flat_map, list_all}
use Rattle.std.specs.Map.{keys_of}
use Rattle.std.specs.List.Sorted.{IsStrictlySortedBy}
use Rattle.std.specs.Ordering.{is_lt, nat_cmp}
use Rattle.std.specs.declared.cmp.Ordering.TheVariants.{Less, Equal, Greater}
use Rattle.std.proofs.lemmas.Bool.{and_parts, lt-ltb, ltb-true}
use Rattle.std.proofs.lemmas.Cmp.{nat_cmp_total, ranked}
use Rattle.std.proofs.lemmas.List.{length-append}
use Rattle.oa_variant.specs.declared.variant.Variant.{Variant}
use Rattle.oa_table.specs.promise.Places.{PlaceValue}
use Rattle.oa_table.specs.promise.Tables.{ObjectValue, TableValue}
use Rattle.oa_formats.specs.promise.Formats.{Format, counted, coded, made_where, next_by, only, raw, rising, times}
use Rattle.oa_formats.specs.promise.Numbers.{u32, guid_format}
use Rattle.oa_formats.proofs.Exact.{no_prefix}
use Rattle.oa_image.specs.promise.Tables.{cell, cells, is_used, object, older, place_before, table, table_image}
use Rattle.oa_image.specs.declared.reader.OpenObject.{OpenObject}
use Rattle.oa_image.specs.declared.reader.OpenTable.{OpenTable}
use Rattle.oa_image.specs.Reader.{IsOpenTable, TakesEnd, all_objects, object_so_far, with_at_hand, count_at_hand, is_behind, last_number, object_head}
use Rattle.oa_image.specs.Reader.{object_taken, table_head, table_taken, taken_at_hand}
use Rattle.oa_image.proofs.Pieced.{whole_image}
use Rattle.oa_image.proofs.Rising.{apart, sorted}
use Rattle.oa_image.proofs.TablesWithImages.{object_parts, table_parts}

-- ---- the number of the last object

lower : (b c : Bool) → is_lt (cond b Less (cond c Equal Greater)) ≡ b
lower true c = refl
lower false true = refl
lower false false = refl

last_is : (os : List (ℕ × ObjectValue)) (o : ℕ × ObjectValue) → 0 < o.0 → is_behind older os o ≡ ltb (last_number os) o.0
last_is [] o some = sym (lt-ltb 0 o.0 some)
last_is (p ∷ []) o some = lower (ltb p.0 o.0) (eqb p.0 o.0)
last_is (p ∷ q ∷ os) o some = last_is (q ∷ os) o some

pub above_last : (os : List (ℕ × ObjectValue)) (o : ℕ × ObjectValue) → last_number os < o.0 → is_behind older os o ≡ true
above_last os o lt = last_is os o (omega (arith, lt)) ∙ lt-ltb (last_number os) o.0 lt

pub last_below : (os : List (ℕ × ObjectValue)) (o : ℕ × ObjectValue) → 0 < o.0 → is_behind older os o ≡ true → last_number os < o.0
last_below os o some e = ltb-true (last_number os) o.0 (sym (last_is os o some) ∙ e)

pub last_pushed : (os : List (ℕ × ObjectValue)) (o : ℕ × ObjectValue) → last_number (os ++ o ∷ []) ≡ o.0
last_pushed [] o = refl
last_pushed (p ∷ []) o = refl
last_pushed (p ∷ q ∷ os) o = last_pushed (q ∷ os) o

at_last : (P : ℕ → Type 0) (os : List (ℕ × ObjectValue)) (o : ℕ × ObjectValue) → AllByRecursion P (keys_of (os ++ o ∷ [])) → P o.0
at_last P [] o h = h.0
at_last P (p ∷ os) o h = at_last P os o h.1

below : (a b : ℕ) → nat_cmp a b ≡ Less → a < b
below a b e = ranked a b Less (sym e)

all_below : (os : List (ℕ × ObjectValue)) (o : ℕ × ObjectValue) → IsStrictlySortedBy nat_cmp (keys_of (os ++ o ∷ []))
    → AllByRecursion (λ k. k < o.0) (keys_of os)
unfolding IsStrictlySortedBy
all_below [] o h = tt
all_below (p ∷ os) o h = (below p.0 o.0 (at_last (λ k. nat_cmp p.0 k ≡ Less) os o h.0), all_below os o h.1)

pub each_below : (os : List (ℕ × ObjectValue)) (o : ℕ × ObjectValue) → rising older (os ++ o ∷ []) ≡ true → AllByRecursion (λ k. k < o.0) (keys_of os)
each_below os o r = all_below os o (sorted nat_cmp nat_cmp_total (os ++ o ∷ []) r)

-- ---- lists of images

-- of two lists one begins the other
pub record Others {C : Type 0} (F : Format C) (xs ys : List C) (r s : List ℕ) : Type 0 where
  pub others : List C
  pub all : ys ≡ xs ++ others
  pub are : AllByRecursion F.Is others
  pub bytes : r ≡ flat_map F.image others ++ s

pub list_behind : {C : Type 0} (F : Format C) (xs ys : List C) (r s : List ℕ) → AllByRecursion F.Is xs → AllByRecursion F.Is ys → length xs ≤ length ys
    → flat_map F.image xs ++ r ≡ flat_map F.image ys ++ s → Others F xs ys r s
list_behind F [] ys r s hx hy le e = record { others = ys; all = refl; are = hy; bytes = e }
list_behind F (x ∷ xs) [] r s hx hy le e = absurd (omega (arith, le))
list_behind F (x ∷ xs) (y ∷ ys) r s hx hy le e =
    let p = no_prefix F x y (flat_map F.image xs ++ r) (flat_map F.image ys ++ s) hx.0 hy.0
    (sym (append_assoc (F.image x) (flat_map F.image xs) r) ∙ e ∙ append_assoc (F.image y) (flat_map F.image ys) s) in
    let q = list_behind F xs ys r s hx.1 hy.1 (omega (arith, le)) p.1 in
    let first : y ≡ x = sym p.0 in
    record { others = q.others; all = λ i. first i ∷ q.all i; are = q.are; bytes = q.bytes }

used_there : (next : ℕ) (xs : List (ℕ × ObjectValue)) (o : ℕ × ObjectValue) (ys : List (ℕ × ObjectValue)) → list_all (is_used next) (xs ++ o ∷ ys) ≡ true
    → (0 < o.0) × (o.0 < next)
used_there next [] o ys h =
    let here = and_parts (ltb 0 o.0) (ltb o.0 next) (and_parts (is_used next o) (list_all (is_used next) ys) h).0 in
    (ltb-true 0 o.0 here.0, ltb-true o.0 next here.1)
used_there next (x ∷ xs) o ys h = used_there next xs o ys (and_parts (is_used next x) (list_all (is_used next) (xs ++ o ∷ ys)) h).1

-- ---- behind the objects that were read

pub head_is : (next count : ℕ) → next < 2 ^ 32 → count < 2 ^ 32 → table_head.Is (next, count)
unfolding table_head next_by made_where u32
head_is next count low few = (low, few)

pub head_parts : (h : ℕ × ℕ) → table_head.Is h → (h.0 < 2 ^ 32) × (h.1 < 2 ^ 32)
unfolding table_head next_by made_where u32
head_parts h is = is

pub head_image : (t : TableValue) → table_image t ≡ table_head.image (t.next, length t.objects) ++ flat_map object.image t.objects
unfolding table_head next_by
head_image t = sym (whole_image t)

pub object_head_is : (number : ℕ) (class : List ℕ) (count : ℕ) → number < 2 ^ 32 → length class ≡ 16 → count < 2 ^ 32 → object_head.Is (number, (class, count))
unfolding object_head next_by made_where u32 guid_format
object_head_is number class count low long few = (low, (long, few))

pub object_head_parts : (h : ℕ × (List ℕ × ℕ)) → object_head.Is h → (h.0 < 2 ^ 32) × (length h.1.0 ≡ 16) × (h.1.1 < 2 ^ 32)
unfolding object_head next_by made_where u32 guid_format
object_head_parts h is = (is.0, is.1.0, is.1.1)

pub object_head_bytes : (h : ℕ × (List ℕ × ℕ)) → 0 < length (object_head.image h)
unfolding object_head next_by made_where u32 guid_format raw
object_head_bytes h = omega arith

pub object_image : (o : ℕ × ObjectValue) → object.image o ≡ object_head.image (o.0, (o.1.class, length o.1.cells)) ++ flat_map cell.image o.1.cells
unfolding object cells only counted times coded made_where object_head next_by
object_image o = regroup (u32.image o.0) (guid_format.image o.1.class) (u32.image (length o.1.cells)) (flat_map cell.image o.1.cells)
  where
    regroup : (a b c d : List ℕ) → a ++ (b ++ (c ++ d)) ≡ (a ++ (b ++ c)) ++ d
    regroup a b c d = simp append_assoc refl

-- the objects of a table that begins so
pub record ObjectsBehind (t : OpenTable) (bytes : List ℕ) (whole : TableValue) : Type 0 where
  pub next : whole.next ≡ t.table.next
  pub others : List (ℕ × ObjectValue)
  pub objects : whole.objects ≡ t.table.objects ++ others
  pub count : length others ≡ count_at_hand t.object + t.left
  pub are : AllByRecursion object.Is others
  pub bytes_are : taken_at_hand t.object ++ bytes ≡ flat_map object.image others

pub objects_behind : (t : OpenTable) (bytes : List ℕ) (whole : TableValue) → IsOpenTable t → table.Is whole → table_taken t ++ bytes ≡ table_image whole
    → ObjectsBehind t bytes whole
objects_behind t bytes whole valid is e =
    let here = table_parts t.table valid.is in
    let there = table_parts whole is in
    let hand = taken_at_hand t.object in
    let here_all = flat_map object.image t.table.objects in
    let there_all = flat_map object.image whole.objects in
    let one : table_taken t ++ bytes ≡ table_head.image (t.table.next, all_objects t) ++ ((here_all ++ hand) ++ bytes) =
    append_assoc (table_head.image (t.table.next, all_objects t)) (here_all ++ hand) bytes in
    let p = no_prefix table_head (t.table.next, all_objects t) (whole.next, length whole.objects) ((here_all ++ hand) ++ bytes) there_all
    (head_is t.table.next (all_objects t) here.next valid.few) (head_is whole.next (length whole.objects) there.next there.few)
    (sym one ∙ e ∙ head_image whole) in
    let many : all_objects t ≡ length whole.objects = ap (λ (h : ℕ × ℕ). h.1) p.0 in
    let same : here_all ++ (hand ++ bytes) ≡ there_all ++ [] = sym (append_assoc here_all hand bytes) ∙ p.1 ∙ sym (append-nil there_all) in
    let q = list_behind object t.table.objects whole.objects (hand ++ bytes) [] here.all there.all (omega (arith, many)) same in
    record {
      next = sym (ap (λ (h : ℕ × ℕ). h.0) p.0);
      others = q.others;
      objects = q.all;
      count = omega (arith, many, ap length q.all, length-append t.table.objects q.others);
      are = q.are;
      bytes_are = q.bytes ∙ append-nil (flat_map object.image q.others);
    }

-- none, where none is left
pub no_more : (t : OpenTable) (bytes : List ℕ) → IsOpenTable t → t.object ≡ None → t.left ≡ 0 → TakesEnd (table_taken t) bytes 0
no_more t bytes valid none done whole is e =
    by b.others (b.count ∙ ap (λ (hand : Option OpenObject). count_at_hand hand + t.left) none)
    (ap (λ (hand : Option OpenObject). taken_at_hand hand ++ bytes) (sym none) ∙ b.bytes_are)
  where
    b : ObjectsBehind t bytes whole
    b = objects_behind t bytes whole valid is e

    by : (others : List (ℕ × ObjectValue)) → length others ≡ 0 + t.left → [] ++ bytes ≡ flat_map object.image others → 0 ≡ length bytes
    by [] count same = sym (ap length same)
    by (o ∷ os) count same = absurd (omega (arith, done, count))

-- ---- the part that comes next

-- bytes begin with a value of which P holds
pub record Comes {C : Type 0} (F : Format C) (P : C → Type 0) (bytes : List ℕ) : Type 0 where
  pub value : C
  pub rest : List ℕ
  pub is : F.Is value
  pub fits : P value
  pub bytes_are : bytes ≡ F.image value ++ rest

-- an object, where none is at hand
pub object_comes : (t : OpenTable) (bytes : List ℕ) (whole : TableValue) → IsOpenTable t → t.object ≡ None → 0 < t.left → table.Is whole
    → table_taken t ++ bytes ≡ table_image whole → Comes object_head (λ head. (t.last < head.0) × (head.0 < t.table.next)) bytes
object_comes t bytes whole valid none some is e =
    by b.others (b.count ∙ ap (λ (hand : Option OpenObject). count_at_hand hand + t.left) none) b.are b.objects
    (ap (λ (hand : Option OpenObject). taken_at_hand hand ++ bytes) (sym none) ∙ b.bytes_are)
  where
    b : ObjectsBehind t bytes whole
    b = objects_behind t bytes whole valid is e

    by : (others : List (ℕ × ObjectValue)) → length others ≡ 0 + t.left → AllByRecursion object.Is others → whole.objects ≡ t.table.objects ++ others
        → [] ++ bytes ≡ flat_map object.image others → Comes object_head (λ head. (t.last < head.0) × (head.0 < t.table.next)) bytes
    by [] count are all same = absurd (omega (arith, some, count))
    by (o ∷ os) count are all same =
        let whole_parts = table_parts whole is in
        let parts = object_parts o are.0 in
        let numbered = and_parts (ltb 0 whole.next) (list_all (is_used whole.next) whole.objects) whole_parts.numbered in
        let used = used_there whole.next t.table.objects o os (subst (λ all. list_all (is_used whole.next) all ≡ true) all numbered.1) in
        let behind = apart older t.table.objects o os (subst (λ all. rising older all ≡ true) all whole_parts.rises) in
        let above = last_below t.table.objects o used.0 behind in
        record {
          value = (o.0, (o.1.class, length o.1.cells));
          rest = flat_map cell.image o.1.cells ++ flat_map object.image os;
          is = object_head_is o.0 o.1.class (length o.1.cells) parts.number parts.class parts.few;
          fits = (omega (arith, above, valid.last), omega (arith, used.1, b.next));
          bytes_are = same ∙ ap (λ (l : List ℕ). l ++ flat_map object.image os) (object_image o)
              ∙ append_assoc (object_head.image (o.0, (o.1.class, length o.1.cells))) (flat_map cell.image o.1.cells) (flat_map object.image os);
        }

-- a cell, where cells of the object at hand are left
module _ (t : OpenTable) (o : OpenObject) (bytes : List ℕ) (whole : TableValue) (valid : IsOpenTable (with_at_hand o t)) (some : 0 < o.left)
    (is : table.Is whole)
    (e : table_taken (with_at_hand o t) ++ bytes ≡ table_image whole) where
  abbrev NextCell : Type 0
  NextCell = Comes cell (λ next. is_behind place_before o.cells.items next ≡ true) bytes

  abbrev there : List ℕ
  there = flat_map cell.image o.cells.items

  among_cells : (z : ℕ × ObjectValue) (rest : List ℕ) (cells : List (PlaceValue × Variant))
      → length o.cells.items + length cells ≡ length o.cells.items + o.left → AllByRecursion cell.Is cells
      → rising place_before (o.cells.items ++ cells) ≡ true → bytes ≡ flat_map cell.image cells ++ rest → NextCell
  among_cells z rest [] count are rises same = absurd (omega (arith, some, count))
  among_cells z rest (c ∷ cs) count are rises same = record {
    value = c;
    rest = flat_map cell.image cs ++ rest;
    is = are.0;
    fits = apart place_before o.cells.items c cs rises;
    bytes_are = same ∙ append_assoc (cell.image c) (flat_map cell.image cs) rest;
  }

  of_object : (z : ℕ × ObjectValue) (rest : List ℕ) → object.Is z → object_taken o ++ bytes ≡ object.image z ++ rest → NextCell
  of_object z rest h same =
      let here = object_parts (object_so_far o) valid.at_hand.is in
      let parts = object_parts z h in
      let all = length o.cells.items + o.left in
      let front = object_head.image (o.number, (o.class, all)) in
      let other = object_head.image (z.0, (z.1.class, length z.1.cells)) in
      let whole_object : object.image z ++ rest ≡ other ++ (flat_map cell.image z.1.cells ++ rest) =
      ap (λ (l : List ℕ). l ++ rest) (object_image z) ∙ append_assoc other (flat_map cell.image z.1.cells) rest in
      let p = no_prefix object_head (o.number, (o.class, all)) (z.0, (z.1.class, length z.1.cells)) (there ++ bytes) (flat_map cell.image z.1.cells ++ rest)
      (object_head_is o.number o.class all here.number here.class valid.at_hand.few)
      (object_head_is z.0 z.1.class (length z.1.cells) parts.number parts.class parts.few)
      (sym (append_assoc front there bytes) ∙ same ∙ whole_object) in
      let many : all ≡ length z.1.cells = ap (λ (h : ℕ × (List ℕ × ℕ)). h.1.1) p.0 in
      let q = list_behind cell o.cells.items z.1.cells bytes rest here.all parts.all (omega (arith, many)) p.1 in
      among_cells z rest q.others (omega (arith, many, ap length q.all, length-append o.cells.items q.others)) q.are
      (subst (λ all. rising place_before all ≡ true) q.all parts.rises) q.bytes

  pub cell_comes : NextCell
  cell_comes = by b.others b.count b.are b.bytes_are
    where
      b : ObjectsBehind (with_at_hand o t) bytes whole
      b = objects_behind (with_at_hand o t) bytes whole valid is e

      by : (others : List (ℕ × ObjectValue)) → length others ≡ 1 + t.left → AllByRecursion object.Is others
          → object_taken o ++ bytes ≡ flat_map object.image others → NextCell
      by [] count are same = absurd (omega (arith, count))
      by (z ∷ os) count are same = of_object z (flat_map object.image os) are.0 same
