-- Parts that are taken.
use Rattle.std.proofs.Common.{◌≡◌, ℕ, ◌+◌, ◌-◌, ◌<◌, ◌≤◌, true, ltb, List, [], ◌∷◌, ◌++◌, length, take, drop, Option, Some, None}
use Rattle.std.proofs.Common.{refl, sym, ap, subst, ◌∙◌, append_assoc, append-nil, arith}
use Rattle.std.specs.Prelude.{⊤}
use Rattle.std.specs.Global.{Vec}
use Rattle.std.specs.List.{AllByRecursion, flat_map, list_all}
use Rattle.std.specs.List.Sorted.{IsStrictlySortedBy}
use Rattle.std.specs.Map.{keys_of, values_of}
use Rattle.std.proofs.lemmas.Bool.{and_parts, lt-ltb, ltb-true}
use Rattle.std.proofs.lemmas.List.{length-append, length-drop, length-take, take_all, take_at, take-append-drop}
use Rattle.std.proofs.Math.Seq.{take-add}
use Rattle.std.proofs.lemmas.List.Concat.{flat_map-append}
use Rattle.std.proofs.lemmas.List.Elements.{All-from_recursion}
use Rattle.oa_variant.specs.declared.variant.Variant.{Variant}
use Rattle.oa_table.specs.promise.Elements.{locks_of}
use Rattle.oa_table.specs.Parts.{CanBeLast, table_with_next, with_last}
use Rattle.oa_table.specs.promise.Places.{PlaceValue, place_cmp}
use Rattle.oa_table.specs.Places.{places_total}
use Rattle.oa_table.specs.promise.Sizes.{table_size}
use Rattle.oa_table.specs.promise.Tables.{ObjectValue, TableValue}
use Rattle.oa_ndr.specs.promise.Reading.{Cursor, at}
use Rattle.oa_formats.specs.promise.Formats.{Format, IsBytes, rising}
use Rattle.oa_formats.proofs.Exact.{no_prefix}
use Rattle.oa_image.specs.promise.Tables.{place_before, cell, object, older, table, table_image, is_used}
use Rattle.oa_image.specs.declared.reader.OpenObject.{OpenObject}
use Rattle.oa_image.specs.declared.reader.OpenTable.{OpenTable}
use Rattle.oa_image.specs.Reader.{BeginsWith, IsBetweenParts, IsOpenTable, TakesEnd, TakesPart, all_objects, is_behind, object_head, object_so_far}
use Rattle.oa_image.specs.Reader.{object_taken, table_head, table_taken, with_at_hand}
use Rattle.oa_image.proofs.Behind.{Comes, above_last, cell_comes, each_below, object_comes, object_head_bytes, head_image, head_is, head_parts, last_pushed}
use Rattle.oa_image.proofs.Behind.{object_head_parts, object_image}
use Rattle.oa_image.proofs.InMemory.{cell_bytes}
use Rattle.oa_image.proofs.Numbered.{pushed_numbers_stay}
use Rattle.oa_image.proofs.Rising.{joined, sorted}
use Rattle.oa_image.proofs.Sized.{table_sized}
use Rattle.oa_image.proofs.TablesWithImages.{each_value, is_object, is_table, object_parts, table_parts}

-- ---- what bytes begin with

pub front : {C : Type 0} (F : Format C) (bytes left : List ℕ) (x : C) (s : Cursor) → IsBytes bytes → F.read (at 0 bytes) ≡ Some (x, s) → left ≡ s.rest
    → (length left ≤ length bytes) × BeginsWith F (λ c. ⊤) bytes (Some (x, length bytes - length left))
front F bytes left x s ok read is =
    let one = F.takes (at 0 bytes) x s ok read in
    let long : length bytes ≡ length (F.image x) + length left = omega (arith, ap length one.1, length-append (F.image x) s.rest, ap length is) in
    let count : length bytes - length left ≡ length (F.image x) = omega (arith, long) in
    let same : take (length bytes - length left) bytes ≡ F.image x =
    ap (λ (n : ℕ). take n bytes) count ∙ ap (take (length (F.image x))) one.1 ∙ take_at (F.image x) s.rest (length (F.image x)) refl in
    (omega (arith, long), (one.0, tt, omega arith, same))

-- a value that is not one of which P holds
pub refused : {C : Type 0} (F : Format C) (P : C → Type 0) (bytes : List ℕ) (x : C) (n : ℕ) → F.Is x → take n bytes ≡ F.image x → (P x → ⊥)
    → BeginsWith F P bytes None
refused F P bytes x n is front fails c rest is_c p same =
    let all : F.image x ++ drop n bytes ≡ F.image c ++ rest = ap (λ (l : List ℕ). l ++ drop n bytes) (sym front) ∙ take-append-drop n bytes ∙ same in
    fails (subst P (sym (no_prefix F x c (drop n bytes) rest is is_c all).0) p)

-- no part, where one would come
pub nothing_comes : {C : Type 0} (F : Format C) (P : C → Type 0) (old bytes : List ℕ) → BeginsWith F P bytes None
    → ((t : TableValue) → table.Is t → old ++ bytes ≡ table_image t → Comes F P bytes) → TakesEnd old bytes 0
nothing_comes F P old bytes none comes t is e = let c = comes t is e in absurd (none c.value c.rest c.is c.fits c.bytes_are)

-- and so nothing is taken
pub stays : (t : OpenTable) (bytes : List ℕ) → TakesEnd (table_taken t) bytes 0 → TakesPart t t bytes 0
stays t bytes end = record {
  takes = record { within = omega arith; taken = sym (append-nil (table_taken t)) };
  none = λ zero. end;
}

-- a part has bytes
pub comes : (old new : OpenTable) (bytes image : List ℕ) (n : ℕ) → n ≤ length bytes → take n bytes ≡ image → 0 < length image
    → table_taken new ≡ table_taken old ++ take n bytes → TakesPart old new bytes n
comes old new bytes image n within front some is = record {
  takes = record { within = within; taken = is };
  none = λ zero. absurd (omega (arith, zero, some, ap length front, length-take n bytes));
}

push_all : {C : Type 0} (P : C → Type 0) (xs : List C) (x : C) → AllByRecursion P xs → P x → AllByRecursion P (xs ++ x ∷ [])
push_all P [] x all p = (p, tt)
push_all P (y ∷ ys) x all p = (all.0, push_all P ys x all.1 p)

images_pushed : {C : Type 0} (image : C → List ℕ) (xs : List C) (x : C) → flat_map image (xs ++ x ∷ []) ≡ flat_map image xs ++ image x
images_pushed image xs x = flat_map-append image xs (x ∷ []) ∙ ap (λ (l : List ℕ). flat_map image xs ++ l) (append-nil (image x))

-- ---- a cell

module _ (t : OpenTable) (o : OpenObject) (cells : Vec (PlaceValue × Variant)) (c : PlaceValue × Variant) (some : 0 < o.left)
    (pushed : cells.items ≡ o.cells.items ++ c ∷ []) where
  abbrev grown : OpenObject
  grown = record { number = o.number; class = o.class; cells = cells; left = o.left - 1 }

  count : length cells.items + (o.left - 1) ≡ length o.cells.items + o.left
  count = omega (arith, some, ap length pushed, length-append o.cells.items (c ∷ []))

  pub cell_taken : (bytes : List ℕ) → bytes ≡ cell.image c → table_taken (with_at_hand grown t) ≡ table_taken (with_at_hand o t) ++ bytes
  cell_taken bytes is =
      let head = object_head.image (o.number, (o.class, length o.cells.items + o.left)) in
      let cells_are : flat_map cell.image cells.items ≡ flat_map cell.image o.cells.items ++ bytes = ap (flat_map cell.image) pushed
      ∙ images_pushed cell.image o.cells.items c
      ∙ ap (λ (l : List ℕ). flat_map cell.image o.cells.items ++ l) (sym is) in
      rw (count, cells_are) (regroup (table_head.image (t.table.next, all_objects (with_at_hand o t))) (flat_map object.image t.table.objects) head
      (flat_map cell.image o.cells.items) bytes)
    where
      regroup : (a b c d e : List ℕ) → a ++ (b ++ (c ++ (d ++ e))) ≡ (a ++ (b ++ (c ++ d))) ++ e
      regroup a b c d e = simp append_assoc refl

  pub cell_opens : IsOpenTable (with_at_hand o t) → cell.Is c → is_behind place_before o.cells.items c ≡ true → IsOpenTable (with_at_hand grown t)
  cell_opens valid is behind =
      let parts = object_parts (object_so_far o) valid.at_hand.is in
      record {
        is = valid.is;
        last = valid.last;
        few = valid.few;
        at_hand = record {
          is = is_object (object_so_far grown) (record {
            number = parts.number;
            class = parts.class;
            few = omega (arith, count, valid.at_hand.few);
            all = subst (AllByRecursion cell.Is) (sym pushed) (push_all cell.Is o.cells.items c parts.all is);
            rises = subst (λ all. rising place_before all ≡ true) (sym pushed) (joined place_before o.cells.items c parts.rises behind);
          });
          above = valid.at_hand.above;
          used = valid.at_hand.used;
          few = omega (arith, count, valid.at_hand.few);
        };
      }

-- ---- an object

module _ (t : OpenTable) (number : ℕ) (class : List ℕ) (cells : Vec (PlaceValue × Variant)) (left : ℕ) (none : t.object ≡ None) (some : 0 < t.left)
    (empty : cells.items ≡ []) where
  abbrev opened : OpenObject
  opened = record { number = number; class = class; cells = cells; left = left }

  abbrev fewer : OpenTable
  fewer = record t { left = t.left - 1 }

  all_are : length t.table.objects + (1 + (t.left - 1)) ≡ all_objects t
  all_are = rw none (omega (arith, some))

  pub object_head_taken : (bytes : List ℕ) → bytes ≡ object_head.image (number, (class, left))
      → table_taken (with_at_hand opened fewer) ≡ table_taken t ++ bytes
  object_head_taken bytes is =
      let count : length cells.items + left ≡ left = omega (arith, ap length empty) in
      rw (all_are, count, empty, none, is) (regroup (table_head.image (t.table.next, length t.table.objects + (0 + t.left)))
      (flat_map object.image t.table.objects) (object_head.image (number, (class, left))))
    where
      regroup : (a b c : List ℕ) → a ++ (b ++ (c ++ [])) ≡ (a ++ (b ++ [])) ++ c
      regroup a b c = simp (append_assoc, append-nil) refl

  pub object_opens : IsOpenTable t → object_head.Is (number, (class, left)) → t.last < number → number < t.table.next → IsOpenTable (with_at_hand opened fewer)
  object_opens valid is above used =
      let head = object_head_parts (number, (class, left)) is in
      record {
        is = valid.is;
        last = valid.last;
        few = omega (arith, all_are, valid.few);
        at_hand = record {
          is = is_object (object_so_far opened) (record {
            number = head.0;
            class = head.1;
            few = omega (arith, ap length empty);
            all = subst (AllByRecursion cell.Is) (sym empty) tt;
            rises = subst (λ all. rising place_before all ≡ true) (sym empty) refl;
          });
          above = above;
          used = used;
          few = omega (arith, ap length empty, head.2);
        };
      }

-- ---- an object of which no cell is left

module _ (t : OpenTable) (o : OpenObject) (valid : IsOpenTable (with_at_hand o t)) (hand : t.object ≡ None) (done : o.left ≡ 0) where
  abbrev whole_object : ObjectValue
  whole_object = record { class = o.class; cells = o.cells.items }

  abbrev closed : TableValue → OpenTable
  closed made = record { table = made; last = o.number; object = t.object; left = t.left }

  abbrev made : TableValue
  made = with_last o.number whole_object t.table

  in_order : rising older made.objects ≡ true
  in_order = joined older t.table.objects (o.number, whole_object) (table_parts t.table valid.is).rises
      (above_last t.table.objects (o.number, whole_object) (omega (arith, valid.last, valid.at_hand.above)))

  pub can_be_last : CanBeLast o.number whole_object t.table
  can_be_last = record {
    positive = omega (arith, valid.at_hand.above);
    used = valid.at_hand.used;
    above = All-from_recursion (λ other. other < o.number) (keys_of t.table.objects) (each_below t.table.objects (o.number, whole_object) in_order);
    unlocked = All-from_recursion (λ value. locks_of value ≡ 0) (values_of o.cells.items)
        (each_value o.cells.items (object_parts (object_so_far o) valid.at_hand.is).all);
  }

  pub places_sorted : IsStrictlySortedBy place_cmp (keys_of o.cells.items)
  places_sorted = sorted place_cmp places_total o.cells.items (object_parts (object_so_far o) valid.at_hand.is).rises

  one_more : length made.objects ≡ length t.table.objects + 1
  one_more = length-append t.table.objects ((o.number, whole_object) ∷ [])

  all_same : length made.objects + (0 + t.left) ≡ all_objects (with_at_hand o t)
  all_same = omega (arith, one_more)

  object_whole : object_taken o ≡ object.image (o.number, whole_object)
  object_whole =
      let all : length o.cells.items + o.left ≡ length o.cells.items = omega (arith, done) in
      rw all (sym (object_image (o.number, whole_object)))

  pub closed_taken : (new : TableValue) → new ≡ made → table_taken (closed new) ≡ table_taken (with_at_hand o t)
  closed_taken new is =
      let objects_are : flat_map object.image made.objects ++ [] ≡ flat_map object.image t.table.objects ++ object_taken o =
      append-nil (flat_map object.image made.objects) ∙ images_pushed object.image t.table.objects (o.number, whole_object)
      ∙ ap (λ (l : List ℕ). flat_map object.image t.table.objects ++ l) (sym object_whole) in
      rw (is, hand, all_same, objects_are) refl

  pub closed_is : (new : TableValue) → new ≡ made → IsOpenTable (closed new)
  closed_is new is =
      let parts = table_parts t.table valid.is in
      rw (is, hand) (record {
        is = is_table made (record {
          next = parts.next;
          few = omega (arith, one_more, valid.few);
          all = push_all object.Is t.table.objects (o.number, whole_object) parts.all valid.at_hand.is;
          rises = in_order;
          numbered = pushed_numbers_stay o.number whole_object t.table can_be_last parts.numbered;
        });
        last = sym (last_pushed t.table.objects (o.number, whole_object));
        few = omega (arith, all_same, valid.few);
        at_hand = tt;
      })

-- ---- stretches

pub further : (old now new bytes : List ℕ) (n m : ℕ) → now ≡ old ++ take n bytes → new ≡ now ++ take m (drop n bytes) → new ≡ old ++ take (n + m) bytes
further old now new bytes n m was is =
    is ∙ ap (λ (l : List ℕ). l ++ take m (drop n bytes)) was ∙ append_assoc old (take n bytes) (take m (drop n bytes))
    ∙ ap (λ (l : List ℕ). old ++ l) (sym (take-add n m bytes))

pub all_behind : (bytes : List ℕ) (n : ℕ) → take (length bytes - n) (drop n bytes) ≡ drop n bytes
all_behind bytes n = take_all (length bytes - n) (drop n bytes) (omega (arith, length-drop n bytes))

pub ends : (old now bytes : List ℕ) (n m : ℕ) → n ≤ length bytes → now ≡ old ++ take n bytes → TakesEnd now (drop n bytes) m → TakesEnd old bytes (n + m)
ends old now bytes n m within was end t is e =
    let same : now ++ drop n bytes ≡ old ++ bytes = ap (λ (l : List ℕ). l ++ drop n bytes) was ∙ append_assoc old (take n bytes) (drop n bytes)
    ∙ ap (λ (l : List ℕ). old ++ l) (take-append-drop n bytes) in
    let all : m ≡ length (drop n bytes) = end t is (same ∙ e) in
    omega (arith, all, length-drop n bytes, within)

-- ---- the head of a table

pub begins_none : (bytes : List ℕ) → BeginsWith table_head (λ head. 0 < head.0) bytes None → (t : TableValue) → table.Is t → bytes ≡ table_image t → ⊥
begins_none bytes none t is e =
    let parts = table_parts t is in
    let numbered = and_parts (ltb 0 t.next) (list_all (is_used t.next) t.objects) parts.numbered in
    none (t.next, length t.objects) (flat_map object.image t.objects) (head_is t.next (length t.objects) parts.next parts.few) (ltb-true 0 t.next numbered.0)
    (e ∙ head_image t)

pub begun_is : (next left : ℕ) → table_head.Is (next, left) → 0 < next
    → IsOpenTable (record { table = table_with_next next; last = 0; object = None; left = left })
begun_is next left is some =
    let head = head_parts (next, left) is in
    record {
      is = is_table (table_with_next next) (record { next = head.0; few = omega arith; all = tt; rises = refl; numbered = rw (lt-ltb 0 next some) refl });
      last = refl;
      few = omega (arith, head.1);
      at_hand = tt;
    }

pub begun_taken : (next left : ℕ) (bytes : List ℕ) → bytes ≡ table_head.image (next, left)
    → bytes ≡ table_taken (record { table = table_with_next next; last = 0; object = None; left = left })
begun_taken next left bytes is =
    let count : left ≡ 0 + (0 + left) = omega arith in
    is ∙ sym (append-nil (table_head.image (next, left))) ∙ ap (λ (n : ℕ). table_head.image (next, n) ++ []) count

-- ---- the end

nothing : (image rest : List ℕ) → 0 < length image → [] ≡ image ++ rest → ⊥
nothing image rest some e = absurd (omega (arith, some, ap length e, length-append image rest))

-- a part would come
pub not_whole : (t : OpenTable) → IsBetweenParts t → (t.object ≡ None → 0 < t.left) → (whole : TableValue) → table.Is whole → table_taken t ≡ table_image whole
    → ⊥
not_whole t between left whole is e = by t.object refl
  where
    by : (hand : Option OpenObject) → t.object ≡ hand → ⊥
    by None none =
        let c = object_comes t [] whole between.0 none (left none) is (append-nil (table_taken t) ∙ e) in
        nothing (object_head.image c.value) c.rest (object_head_bytes c.value) c.bytes_are
    by (Some o) hand =
        let same : t ≡ with_at_hand o t = ap (λ (h : Option OpenObject). record t { object = h }) hand in
        let here = subst IsBetweenParts same between in
        let taken : table_taken (with_at_hand o t) ≡ table_image whole = subst (λ (x : OpenTable). table_taken x ≡ table_image whole) same e in
        let c = cell_comes t o [] whole here.0 here.1 is (append-nil (table_taken (with_at_hand o t)) ∙ taken) in
        nothing (cell.image c.value) c.rest (cell_bytes c.value) c.bytes_are

pub is_whole : (t : OpenTable) → t.object ≡ None → t.left ≡ 0 → table_taken t ≡ table_image t.table
is_whole t none done =
    let head : table_head.image (t.table.next, length t.table.objects + (0 + t.left)) ≡ table_head.image (t.table.next, length t.table.objects) =
    ap (λ (n : ℕ). table_head.image (t.table.next, n)) (omega (arith, done)) in
    rw (none, head, append-nil (flat_map object.image t.table.objects)) (sym (head_image t.table))

-- each image has bytes
pub some_bytes : (t : TableValue) → [] ≡ table_image t → ⊥
unfolding table_size
some_bytes t e = absurd (omega (arith, ap length e, table_sized t))
