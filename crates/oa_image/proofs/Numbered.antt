-- Events keep the numbers of a table's objects between 1 and the next one.
use Rattle.std.proofs.Common.{◌≡◌, ℕ, ◌+◌, Bool, true, false, cond, eqb, leb, ltb, List, [], ◌∷◌, Option, Some, None, Result, Ok, Err, IfOk}
use Rattle.std.proofs.Common.{refl, sym, ap, subst, arith}
use Rattle.std.specs.Prelude.{◌&&◌, nat_lt}
use Rattle.std.specs.List.{list_all}
use Rattle.std.specs.Map.{remove_entry, set_value}
use Rattle.std.specs.BTreeMap.{insert_entry, is_at}
use Rattle.std.specs.Ordering.{match_ordering, nat_cmp}
use Rattle.std.specs.declared.cmp.Ordering.{Ordering}
use Rattle.std.specs.declared.cmp.Ordering.TheVariants.{Less, Equal, Greater}
use Rattle.std.proofs.lemmas.Bool.{and_parts, eqb-true, ltb-true, lt-ltb}
use Rattle.std.proofs.lemmas.List.Folds.{list_all-append, list_all-map}
use Rattle.oa_model.specs.promise.Limits.{greatest_object_number}
use Rattle.oa_array.specs.declared.fault.ArrayFault.TheVariants as arrays
use Rattle.oa_table.specs.declared.event.Event.{Event}
use Rattle.oa_table.specs.declared.event.Event.TheVariants.{Create, Release, Put, PutElement, Redim}
use Rattle.oa_table.specs.declared.fault.TableFault.{TableFault}
use Rattle.oa_table.specs.declared.fault.TableFault.TheVariants.{Array, WrongNumber}
use Rattle.oa_table.specs.promise.Elements.{with_element_put, redimensioned_value}
use Rattle.oa_table.specs.promise.Events.{applied, changed_if_live, created, on_object, released_if_live, with_object}
use Rattle.oa_table.specs.promise.Objects.{any_locked, with_change, with_put}
use Rattle.oa_table.specs.promise.Outcomes.{mapped}
use Rattle.oa_table.specs.Parts.{CanBeLast, with_last}
use Rattle.oa_table.specs.promise.Tables.{ObjectValue, TableValue, object_at, unlocked_entry, unlocked_table}
use Rattle.oa_image.specs.promise.Tables.{is_numbered, is_used}

module _ {K X : Type 0} (p : K → Bool) where
  abbrev good : List (K × X) → Bool
  good es = list_all (λ e. p e.0) es

  good_inserted : (cmp : K → K → Ordering) (es : List (K × X)) (k : K) (v : X) → good es ≡ true → p k ≡ true
      → good (insert_entry cmp es k v) ≡ true
  good_inserted cmp [] k v all is = rw is refl
  good_inserted cmp (e ∷ es) k v all is =
      let parts = and_parts (p e.0) (good es) all in by (cmp k e.0) parts.0 parts.1 (good_inserted cmp es k v parts.1 is)
    where
      by : (o : Ordering) → p e.0 ≡ true → good es ≡ true → good (insert_entry cmp es k v) ≡ true
          → good (match_ordering o ((k, v) ∷ e ∷ es) ((e.0, v) ∷ es) (e ∷ insert_entry cmp es k v)) ≡ true
      by Less one rest more = rw (is, one, rest) refl
      by Equal one rest more = rw (one, rest) refl
      by Greater one rest more = rw (one, more) refl

  good_removed : (test : K → Bool) (es : List (K × X)) → good es ≡ true → good (remove_entry test es) ≡ true
  good_removed test [] all = refl
  good_removed test (e ∷ es) all = let parts = and_parts (p e.0) (good es) all in by (test e.0) parts.0 parts.1 (good_removed test es parts.1)
    where
      by : (b : Bool) → p e.0 ≡ true → good es ≡ true → good (remove_entry test es) ≡ true
          → good (cond b es (e ∷ remove_entry test es)) ≡ true
      by true one rest more = rest
      by false one rest more = rw (one, more) refl

  good_set : (test : K → Bool) (es : List (K × X)) (w : X) → good (set_value test es w) ≡ good es
  good_set test [] w = refl
  good_set test (e ∷ es) w = by (test e.0) (good_set test es w)
    where
      by : (b : Bool) → good (set_value test es w) ≡ good es → good (cond b ((e.0, w) ∷ es) (e ∷ set_value test es w)) ≡ good (e ∷ es)
      by true h = refl
      by false h = ap (λ (b : Bool). p e.0 && b) h

good_weaker : {K X : Type 0} (p q : K → Bool) → ((k : K) → p k ≡ true → q k ≡ true) → (es : List (K × X)) → good p es ≡ true
    → good q es ≡ true
good_weaker p q more [] all = refl
good_weaker p q more (e ∷ es) all = let parts = and_parts (p e.0) (good p es) all in rw (more e.0 parts.0, good_weaker p q more es parts.1) refl

abbrev used : ℕ → ℕ → Bool
used next number = nat_lt 0 number && nat_lt number next

abbrev IsNumbered : TableValue → Type 0
IsNumbered t = is_numbered t ≡ true

used_later : (next number : ℕ) → used next number ≡ true → used (next + 1) number ≡ true
used_later next number e =
    let parts = and_parts (ltb 0 number) (ltb number next) e in
    rw (parts.0, lt-ltb number (next + 1) (omega (arith, ltb-true number next parts.1))) refl

create_keeps : (number : ℕ) (object : ObjectValue) (t : TableValue) → IsNumbered t → IfOk (created number object t) IsNumbered
create_keeps number object t h = by (eqb number t.next && leb number greatest_object_number)
    (λ e. made (and_parts (eqb number t.next) (leb number greatest_object_number) e).0)
  where
    made : eqb number t.next ≡ true → IsNumbered (record { next = number + 1; objects = insert_entry nat_cmp t.objects number object })
    made e =
        let is : number ≡ t.next = eqb-true number t.next e in
        let parts = and_parts (ltb 0 t.next) (list_all (is_used t.next) t.objects) h in
        let old : good (used number) t.objects ≡ true = subst (λ (n : ℕ). good (used n) t.objects ≡ true) (sym is) parts.1 in
        let later = good_weaker (used number) (used (number + 1)) (used_later number) t.objects old in
        let here : used (number + 1) number ≡ true =
        rw (lt-ltb 0 number (omega (arith, is, ltb-true 0 t.next parts.0)), lt-ltb number (number + 1) (omega arith)) refl in
        rw (lt-ltb 0 (number + 1) (omega arith), good_inserted (used (number + 1)) nat_cmp t.objects number object later here) refl

    by : (b : Bool) → (b ≡ true → IsNumbered (record { next = number + 1; objects = insert_entry nat_cmp t.objects number object }))
        → IfOk (cond b (Ok (record { next = number + 1; objects = insert_entry nat_cmp t.objects number object }))
        (Err WrongNumber)) IsNumbered
    by true is = is refl
    by false is = tt

release_keeps : (number : ℕ) (t : TableValue) (o : Option ObjectValue) → IsNumbered t → IfOk (released_if_live number t o) IsNumbered
release_keeps number t None h = tt
release_keeps number t (Some object) h = by (any_locked object.cells)
  where
    parts : (nat_lt 0 t.next ≡ true) × (list_all (is_used t.next) t.objects ≡ true)
    parts = and_parts (ltb 0 t.next) (list_all (is_used t.next) t.objects) h

    by : (b : Bool) → IfOk (cond b (Err (Array arrays.IsLocked))
        (Ok (record t { objects = remove_entry (is_at (nat_cmp number)) t.objects }))) IsNumbered
    by true = tt
    by false = rw (parts.0, good_removed (used t.next) (is_at (nat_cmp number)) t.objects parts.1) refl

set_keeps : (number : ℕ) (t : TableValue) (object : ObjectValue) → IsNumbered t → IsNumbered (with_object number t object)
set_keeps number t object h = rw (good_set (used t.next) (is_at (nat_cmp number)) t.objects object) h

mapped_keeps : (number : ℕ) (t : TableValue) (r : Result ObjectValue TableFault) → IsNumbered t
    → IfOk (mapped (with_object number t) r) IsNumbered
mapped_keeps number t (Ok object) h = set_keeps number t object h
mapped_keeps number t (Err fault) h = tt

change_keeps : (number : ℕ) (change : ObjectValue → Result ObjectValue TableFault) (t : TableValue) (o : Option ObjectValue) → IsNumbered t
    → IfOk (changed_if_live number change t o) IsNumbered
change_keeps number change t None h = tt
change_keeps number change t (Some object) h = mapped_keeps number t (change object) h

-- the same for a change of one object, so for locks too
pub on_object_keeps : (number : ℕ) (change : ObjectValue → Result ObjectValue TableFault) (t : TableValue) → IsNumbered t
    → IfOk (on_object number change t) IsNumbered
on_object_keeps number change t h = change_keeps number change t (object_at number t) h

pub event_keeps : (event : Event) (t : TableValue) → IsNumbered t → IfOk (applied event t) IsNumbered
event_keeps (Create number class) t h = create_keeps number (record { class = class; cells = [] }) t h
event_keeps (Release number) t h = release_keeps number t (object_at number t) h
event_keeps (Put name value) t h = on_object_keeps name.object (with_put name.place value) t h
event_keeps (PutElement name index value) t h = on_object_keeps name.object (with_change name.place (with_element_put index value)) t h
event_keeps (Redim name bound) t h = on_object_keeps name.object (with_change name.place (redimensioned_value bound)) t h

pub numbers_stay : (event : Event) (old new : TableValue) → is_numbered old ≡ true → applied event old ≡ Ok new → is_numbered new ≡ true
numbers_stay event old new h e = subst (λ (r : Result TableValue TableFault). IfOk r IsNumbered) e (event_keeps event old h)

-- locks are no matter of it
pub unlocked_numbers : (t : TableValue) → is_numbered (unlocked_table t) ≡ is_numbered t
unlocked_numbers t = ap (λ (b : Bool). nat_lt 0 t.next && b) (list_all-map (is_used t.next) unlocked_entry t.objects)

-- one object more, behind the others
pub pushed_numbers_stay : (number : ℕ) (object : ObjectValue) (t : TableValue) → CanBeLast number object t → IsNumbered t
    → IsNumbered (with_last number object t)
pushed_numbers_stay number object t can h =
    let parts = and_parts (ltb 0 t.next) (list_all (is_used t.next) t.objects) h in
    let here : used t.next number ≡ true = rw (lt-ltb 0 number (omega (arith, can.positive)), lt-ltb number t.next can.used) refl in
    rw (parts.0, list_all-append (is_used t.next) t.objects ((number, object) ∷ []), parts.1, here) refl
