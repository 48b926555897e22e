-- Reading a layout reads its form.
use Rattle.std.proofs.Common.{◌≡◌, ℕ, ℤ, ◌+◌, ◌≤◌, Bool, true, false, leb, ◌&&◌, List, ◌++◌, length, Option, Some, None, refl}
use Rattle.std.proofs.Common.{sym, ap, subst, ◌∙◌, arith}
use Rattle.std.proofs.lemmas.Bool.{leb-true, leb-false}
use Rattle.std.specs.Int.{w32, cast_signed}
use Rattle.oa_model.specs.promise.Limits.{max_arguments, max_dimensions, max_names}
use Rattle.oa_model.specs.promise.Guids.{wire_order}
use Rattle.oa_model.specs.declared.bound.Bound.{Bound}
use Rattle.oa_ndr.specs.promise.Forms.{unit, exactly, each, nothing}
use Rattle.oa_ndr.specs.promise.Reading.{Cursor, at}
use Rattle.oa_ndr.proofs.Laws.{Reads, Takes, Always, all_always, fail_reads, choose_reads, give_reads, none_reads, unit_reads, bytes_reads}
use Rattle.oa_ndr.proofs.Laws.{align_reads, align_then, bind_reads, with_reads, told_reads, made_from, made_reads, made_takes, made_again}
use Rattle.oa_ndr.proofs.Laws.{nothing_takes, nothing_again, many_reads, ignored_then, given_then, same_values}
use Rattle.oa_wire_array.specs.promise.Arrays.{bound}
use Rattle.oa_wire_array.specs.ArrayReading.{bound_at}
use Rattle.oa_wire_array.proofs.ScalarLaws.{signed_reads}
use Rattle.oa_record.specs.promise.CallParts.{CallParts, ElementParts, PutParts, RedimParts}
use Rattle.oa_record.specs.promise.Opcodes.{opcode_number, opcode_named}
use Rattle.oa_record.proofs.OpcodeLaws.{named_back, number_from, same_opcode}
use Rattle.oa_record.specs.declared.opcode.Opcode.{Opcode}
use Rattle.oa_record.specs.declared.opcode.Opcode.TheVariants as opcodes
use Rattle.oa_record.specs.declared.request.CallHead.{CallHead}
use Rattle.oa_record.specs.declared.request.GetIds.{GetIds}
use Rattle.oa_record.specs.promise.Layouts.{Layout, opcode_of, guid, dispid, field, call_head, call_parts, index_list}
use Rattle.oa_record.specs.promise.Layouts.{element_parts, put_parts, redim_parts, string, get_ids, number, fields}
use Rattle.oa_record.specs.promise.Layouts.{layout}
use Rattle.oa_record.specs.Reading.{guid_at, dispid_at, field_at, head_of, call_head_at, parts_of, lists_at, call_at, index_list_at}
use Rattle.oa_record.specs.Reading.{indices_at, parts_of_element, element_at, put_of, put_at, redim_of, redim_at, string_at, ids_of, names_at}
use Rattle.oa_record.specs.Reading.{get_ids_at, number_at, fields_at, layout_by_opcode, layout_at}

pub guid_reads : Reads Always guid guid_at
unfolding guid_at
guid_reads = made_from wire_order (told_reads (bytes_reads 16)) (λ _. tt)

dispid_reads : Reads Always dispid dispid_at
unfolding dispid_at
dispid_reads = with_reads (unit_reads 4) (λ c a p text _ _. tt) (λ x _. give_reads (cast_signed w32 x) tt refl (λ c _ e. e))

field_reads : Reads Always field field_at
unfolding field_at
field_reads =
    bind_reads (unit 4) (λ (bytes : List ℕ). length bytes) (unit_reads 4) (λ _ _. tt) (λ n _.
    ignored_then 4 (bind_reads exactly (λ bytes. bytes) (bytes_reads n) (λ bytes h. h.1) (λ bytes is_n.
    made_reads (λ _. bytes) (align_reads 8) (λ _ _. ((tt, is_n), refl)) (λ c p text h form. (tt, tt, sym h.1)))))

head_is : (h : CallHead) (object : ℕ) (dispid : ℤ) (interface riid : List ℕ) (lcid flags : ℕ) → h.object ≡ object → h.dispid ≡ dispid → h.interface ≡ interface
    → h.riid ≡ riid → h.lcid ≡ lcid → h.flags ≡ flags
    → head_of object dispid interface riid lcid flags ≡ h
head_is h object dispid interface riid lcid flags a b c d e f = rw (← a, ← b, ← c, ← d, ← e, ← f) refl

pub call_head_reads : Reads Always call_head call_head_at
unfolding call_head_at
call_head_reads =
    bind_reads (unit 4) (λ (h : CallHead). h.object) (unit_reads 4) (λ _ _. tt) (λ object _.
    bind_reads dispid (λ (h : CallHead). h.dispid) dispid_reads (λ _ _. tt) (λ id _.
    bind_reads guid (λ (h : CallHead). h.interface) guid_reads (λ _ _. tt) (λ interface _.
    bind_reads guid (λ (h : CallHead). h.riid) guid_reads (λ _ _. tt) (λ riid _.
    bind_reads (unit 4) (λ (h : CallHead). h.lcid) (unit_reads 4) (λ _ _. tt) (λ lcid _.
    bind_reads (unit 2) (λ (h : CallHead). h.flags) (unit_reads 2) (λ _ _. tt) (λ flags _.
    ignored_then 2 (none_reads {F = λ _. nothing} (head_of object id interface riid lcid flags) ((((((tt, refl), refl), refl), refl), refl), refl) (λ p. refl)
    (λ h p text q form. (sym (head_is h object id interface riid lcid flags q.0.0.0.0.0.1 q.0.0.0.0.1 q.0.0.0.1 q.0.0.1 q.0.1 q.1), form)))))))))

call_is : (c : CallParts) (head : CallHead) (named : List ℤ) → c.head ≡ head → c.named ≡ named → parts_of head named c.fields ≡ c
call_is c head named a b = rw (← a, ← b) refl

call_reads : Reads Always call_parts call_at
unfolding call_at lists_at
call_reads =
    bind_reads call_head (λ (c : CallParts). c.head) call_head_reads (λ _ _. tt) (λ head _.
    bind_reads (unit 4) (λ (c : CallParts). length c.fields) (unit_reads 4) (λ _ _. tt) (λ count _.
    bind_reads (unit 4) (λ (c : CallParts). length c.named) (unit_reads 4) (λ _ _. tt) (λ named_count _.
    choose_reads (leb count max_arguments && leb named_count max_arguments)
    (λ few. given_then (λ c p. few_lists count named_count c few p.0.1 p.1)
    (bind_reads (each dispid) (λ (c : CallParts). c.named) (many_reads dispid_reads named_count) (λ c p. (p.1, all_always c.named)) (λ named is_named.
    align_then 8 (made_reads (parts_of head named) (many_reads field_reads count)
    (λ lists is. ((((tt, refl), is.0), is_named.0), refl))
    (λ c p text q form. (c.fields, (q.0.0.1, all_always c.fields), call_is c head named q.0.0.0.1 q.1))))))
    (λ many. fail_reads (λ c p text q form. too_many count named_count c many q.0.1 q.1 form.first.fact)))))
  where
    few_lists : (count named_count : ℕ) (c : CallParts) → (leb count max_arguments && leb named_count max_arguments) ≡ true → length c.fields ≡ count
        → length c.named ≡ named_count → (length c.fields ≤ max_arguments) × (length c.named ≤ max_arguments)
    few_lists count named_count c few a b = parts (leb count max_arguments) (leb named_count max_arguments) few refl refl
      where
        parts : (p q : Bool) → (p && q) ≡ true → leb count max_arguments ≡ p → leb named_count max_arguments ≡ q → (length c.fields ≤ max_arguments)
            × (length c.named ≤ max_arguments)
        parts true true e x y = (omega (arith, leb-true _ _ x, a), omega (arith, leb-true _ _ y, b))
        parts true false e x y = absurd cc
        parts false q e x y = absurd cc

    too_many : (count named_count : ℕ) (c : CallParts) → (leb count max_arguments && leb named_count max_arguments) ≡ false → length c.fields ≡ count
        → length c.named ≡ named_count → (length c.fields ≤ max_arguments) × (length c.named ≤ max_arguments) → ⊥
    too_many count named_count c many a b fits = parts (leb count max_arguments) (leb named_count max_arguments) many refl refl
      where
        parts : (p q : Bool) → (p && q) ≡ false → leb count max_arguments ≡ p → leb named_count max_arguments ≡ q → ⊥
        parts true true e x y = absurd cc
        parts true false e x y = omega (arith, leb-false _ _ y, b, fits.1)
        parts false q e x y = omega (arith, leb-false _ _ x, a, fits.0)

few_indices : (n : ℕ) (xs : List ℤ) → leb n max_dimensions ≡ true → length xs ≡ n → length xs ≤ max_dimensions
few_indices n xs e is = omega (arith, leb-true _ _ e, is)

indices_reads : Reads Always index_list indices_at
unfolding indices_at index_list_at
indices_reads =
    bind_reads (unit 4) (λ (xs : List ℤ). length xs) (unit_reads 4) (λ _ _. tt) (λ n _.
    ignored_then 4 (choose_reads (leb n max_dimensions)
    (λ few. given_then (λ xs p. few_indices n xs few p.1)
    (bind_reads (each dispid) (λ (xs : List ℤ). xs) (many_reads dispid_reads n) (λ xs p. (p.1, all_always xs)) (λ xs is_n.
    made_reads (λ _. xs) (align_reads 8) (λ _ _. ((tt, is_n.0), refl)) (λ c p text h form. (tt, tt, sym h.1)))))
    (λ many. fail_reads (λ xs p text q form. omega (arith, leb-false _ _ many, q.1, form.first.fact)))))

element_reads : Reads Always element_parts element_at
unfolding element_at
element_reads =
    bind_reads call_parts (λ (e : ElementParts). e.call) call_reads (λ _ _. tt) (λ call _.
    made_reads (parts_of_element call) indices_reads (λ _ _. (tt, refl))
    (λ e p text q form. (e.indices, tt, ap (λ (c : CallParts). parts_of_element c e.indices) (sym q.1))))

put_reads : Reads Always put_parts put_at
unfolding put_at
put_reads =
    bind_reads element_parts (λ (p : PutParts). p.element) element_reads (λ _ _. tt) (λ element _.
    made_reads (put_of element) field_reads (λ _ _. (tt, refl)) (λ x p text q form. (x.value, tt, ap (λ (e : ElementParts). put_of e x.value) (sym q.1))))

abbrev bound_of : ℕ → ℤ → Bound
bound_of count lower = record { count = count; lower = lower }

bound_is : (b : Bound) (count : ℕ) → b.count ≡ count → bound_of count b.lower ≡ b
bound_is b count e = rw (← e) refl

bound_reads : Reads Always bound bound_at
unfolding bound_at
bound_reads = bind_reads (unit 4) (λ (b : Bound). b.count) (unit_reads 4) (λ _ _. tt) (λ count _.
    made_reads (bound_of count) (signed_reads 4 w32) (λ lower _. (tt, refl)) (λ b p text h form. (b.lower, tt, bound_is b count h.1)))

redim_reads : Reads Always redim_parts redim_at
unfolding redim_at
redim_reads =
    bind_reads call_parts (λ (r : RedimParts). r.call) call_reads (λ _ _. tt) (λ call _.
    made_reads (redim_of call) bound_reads (λ _ _. (tt, refl)) (λ r p text q form. (r.bound, tt, ap (λ (c : CallParts). redim_of c r.bound) (sym q.1))))

string_reads : Reads Always string string_at
unfolding string_at
string_reads =
    bind_reads (unit 4) (λ (units : List ℕ). length units) (unit_reads 4) (λ _ _. tt) (λ n _.
    ignored_then 4 (bind_reads (each (unit 2)) (λ (units : List ℕ). units) (many_reads (unit_reads 2) n) (λ units h. (h.1, all_always units)) (λ units is_n.
    made_reads (λ _. units) (align_reads 8) (λ _ _. ((tt, is_n.0), refl)) (λ c p text h form. (tt, tt, sym h.1)))))

ids_is : (g : GetIds) (object : ℕ) (interface riid : List ℕ) (lcid : ℕ) → g.object ≡ object → g.interface ≡ interface → g.riid ≡ riid → g.lcid ≡ lcid
    → ids_of object interface riid lcid g.names ≡ g
ids_is g object interface riid lcid a b c d = rw (← a, ← b, ← c, ← d) refl

get_ids_reads : Reads Always get_ids get_ids_at
unfolding get_ids_at names_at
get_ids_reads =
    bind_reads (unit 4) (λ (g : GetIds). g.object) (unit_reads 4) (λ _ _. tt) (λ object _.
    ignored_then 4 (bind_reads guid (λ (g : GetIds). g.interface) guid_reads (λ _ _. tt) (λ interface _.
    bind_reads guid (λ (g : GetIds). g.riid) guid_reads (λ _ _. tt) (λ riid _.
    bind_reads (unit 4) (λ (g : GetIds). g.lcid) (unit_reads 4) (λ _ _. tt) (λ lcid _.
    bind_reads (unit 4) (λ (g : GetIds). length g.names) (unit_reads 4) (λ _ _. tt) (λ count _.
    choose_reads (leb 1 count && leb count max_names)
    (λ few. given_then (λ g p. few_names count g few p.1)
    (made_reads (ids_of object interface riid lcid) (many_reads string_reads count)
    (λ names is. (((((tt, refl), refl), refl), refl), is.0))
    (λ g p text q form. (g.names, (q.1, all_always g.names), ids_is g object interface riid lcid q.0.0.0.0.1 q.0.0.0.1 q.0.0.1 q.0.1))))
    (λ none. fail_reads (λ g p text q form. no_names count g none q.1 form.first.fact))))))))
  where
    few_names : (count : ℕ) (g : GetIds) → (leb 1 count && leb count max_names) ≡ true → length g.names ≡ count → (1 ≤ length g.names)
        × (length g.names ≤ max_names)
    few_names count g few a = parts (leb 1 count) (leb count max_names) few refl refl
      where
        parts : (p q : Bool) → (p && q) ≡ true → leb 1 count ≡ p → leb count max_names ≡ q → (1 ≤ length g.names) × (length g.names ≤ max_names)
        parts true true e x y = (omega (arith, leb-true _ _ x, a), omega (arith, leb-true _ _ y, a))
        parts true false e x y = absurd cc
        parts false q e x y = absurd cc

    no_names : (count : ℕ) (g : GetIds) → (leb 1 count && leb count max_names) ≡ false → length g.names ≡ count → (1 ≤ length g.names)
        × (length g.names ≤ max_names) → ⊥
    no_names count g none a fits = parts (leb 1 count) (leb count max_names) none refl refl
      where
        parts : (p q : Bool) → (p && q) ≡ false → leb 1 count ≡ p → leb count max_names ≡ q → ⊥
        parts true true e x y = absurd cc
        parts true false e x y = omega (arith, leb-false _ _ y, a, fits.1)
        parts false q e x y = omega (arith, leb-false _ _ x, a, fits.0)

number_reads : Reads Always number number_at
unfolding number_at
number_reads =
    bind_reads (unit 4) (λ (n : ℕ). n) (unit_reads 4) (λ _ _. tt) (λ n _.
    ignored_then 4 (none_reads {F = λ _. nothing} n (tt, refl) (λ p. refl) (λ c p text h form. (h.1, form))))

-- ---- the opcodes

-- a body that asks for another library has no layout
pub no_layout : (l : Layout) → opcode_of l ≡ opcodes.Replace → ⊥
no_layout (Layout.CreateBody class) e = cc
no_layout (Layout.NumberBody kind n) e = cc
no_layout (Layout.GetIdsBody call) e = cc
no_layout (Layout.CallBody kind call) e = cc
no_layout (Layout.GetElementBody element) e = cc
no_layout (Layout.PutElementBody put) e = cc
no_layout (Layout.RedimensionBody redim) e = cc
no_layout (Layout.QueryBody query) e = cc

fields_takes : (k : Opcode) (p : ℕ) (bytes : List ℕ) (l : Layout) (end : Cursor) → fields_at k (at p bytes) ≡ Some (l, end) → (opcode_of l ≡ k)
    × Takes (fields l) p bytes end
unfolding fields_at
fields_takes opcodes.Create = made_takes (λ l. opcode_of l ≡ opcodes.Create) fields Layout.CreateBody guid_reads (λ _ _. refl)
fields_takes (opcodes.ByNumber kind) = made_takes (λ l. opcode_of l ≡ opcodes.ByNumber kind) fields (Layout.NumberBody kind) number_reads (λ _ _. refl)
fields_takes opcodes.GetIds = made_takes (λ l. opcode_of l ≡ opcodes.GetIds) fields Layout.GetIdsBody get_ids_reads (λ _ _. refl)
fields_takes (opcodes.ByCall kind) = made_takes (λ l. opcode_of l ≡ opcodes.ByCall kind) fields (Layout.CallBody kind) call_reads (λ _ _. refl)
fields_takes opcodes.GetElement = made_takes (λ l. opcode_of l ≡ opcodes.GetElement) fields Layout.GetElementBody element_reads (λ _ _. refl)
fields_takes opcodes.PutElement = made_takes (λ l. opcode_of l ≡ opcodes.PutElement) fields Layout.PutElementBody put_reads (λ _ _. refl)
fields_takes opcodes.Redimension = made_takes (λ l. opcode_of l ≡ opcodes.Redimension) fields Layout.RedimensionBody redim_reads (λ _ _. refl)
fields_takes (opcodes.Query query) = nothing_takes (λ l. opcode_of l ≡ opcodes.Query query) fields (Layout.QueryBody query) refl (λ p. refl)
fields_takes opcodes.Replace = (fail_reads {P = λ l. opcode_of l ≡ opcodes.Replace} {F = fields} (λ l p text h form. no_layout l h)).takes

fields_again : (p : ℕ) (text rest : List ℕ) (l : Layout) → fields l p text → fields_at (opcode_of l) (at p (text ++ rest)) ≡ Some (l, at (p + length text) rest)
unfolding fields_at
fields_again p text rest (Layout.CreateBody x) form = made_again fields Layout.CreateBody guid_reads p text rest x tt form
fields_again p text rest (Layout.NumberBody kind x) form = made_again fields (Layout.NumberBody kind) number_reads p text rest x tt form
fields_again p text rest (Layout.GetIdsBody x) form = made_again fields Layout.GetIdsBody get_ids_reads p text rest x tt form
fields_again p text rest (Layout.CallBody kind x) form = made_again fields (Layout.CallBody kind) call_reads p text rest x tt form
fields_again p text rest (Layout.GetElementBody x) form = made_again fields Layout.GetElementBody element_reads p text rest x tt form
fields_again p text rest (Layout.PutElementBody x) form = made_again fields Layout.PutElementBody put_reads p text rest x tt form
fields_again p text rest (Layout.RedimensionBody x) form = made_again fields Layout.RedimensionBody redim_reads p text rest x tt form
fields_again p text rest (Layout.QueryBody query) form = nothing_again (Layout.QueryBody query) p text rest form

fields_reads : (k : Opcode) → Reads (λ l. opcode_of l ≡ k) fields (fields_at k)
fields_reads k = record {
  takes = fields_takes k;
  again = λ p text rest l h form. subst (λ (j : Opcode). fields_at j (at p (text ++ rest)) ≡ Some (l, at (p + length text) rest)) h
      (fields_again p text rest l form);
}

named_reads : (n : ℕ) (o : Option Opcode) → opcode_named n ≡ o → Reads (λ l. opcode_number (opcode_of l) ≡ n) fields (layout_by_opcode o)
unfolding layout_by_opcode
named_reads n None e = fail_reads (λ l p text h _.
    let some : opcode_named n ≡ Some (opcode_of l) = ap opcode_named (sym h) ∙ named_back (opcode_of l) in
    absurd cc)
named_reads n (Some k) e = same_values (fields_reads k)
    (λ l h. ap opcode_number h ∙ number_from n k e)
    (λ l h. same_opcode (opcode_of l) k (sym (named_back (opcode_of l)) ∙ ap opcode_named h ∙ e))

pub layout_reads : Reads Always layout layout_at
unfolding layout_at
layout_reads =
    ignored_then 4 (bind_reads (unit 2) (λ l. opcode_number (opcode_of l)) (unit_reads 2) (λ _ _. tt) (λ n _.
    ignored_then 2 (same_values (named_reads n (opcode_named n) refl) (λ l h. (tt, h)) (λ l h. h.1))))
