-- The states of the clients, where one of them comes, changes or goes.
use Rattle.std.proofs.Common.{◌≡◌, ◌<◌, ℕ, arith, length, take, Bool, true, false, cond, List, [], ◌∷◌, Option, Some, None, Ordering, refl, sym, ap, ◌∙◌, subst}
use Rattle.std.specs.BTreeMap.{insert_entry, is_at}
use Rattle.std.specs.Cmp.{eq_by_cmp_equiv, unsigned_tied}
use Rattle.std.specs.List.Sorted.{IsStrictlySortedBy}
use Rattle.std.specs.Map.{keys_of, remove_entry, set_value}
use Rattle.std.specs.Ordering.{is_eq, match_ordering, nat_cmp}
use Rattle.std.specs.declared.cmp.Ordering.TheVariants.{Less, Equal, Greater}
use Rattle.std.proofs.lemmas.Bool.{eq-eqb, eqb-true}
use Rattle.std.proofs.lemmas.Cmp.{nat_cmp_total}
use Rattle.std.proofs.lemmas.List.{length-take-le}
use Rattle.std.proofs.lemmas.Map.{lookup-remove_entry}
use Rattle.std.proofs.lemmas.Map.Keys.{IsDistinct-from_sorted}
use Rattle.oa_frame.specs.declared.ends.End.{End}
use Rattle.oa_frame.specs.declared.ends.End.TheVariants.{Closed}
use Rattle.oa_mux.specs.Readers.{ClientBrings}
use Rattle.oa_mux.specs.promise.Readers.{Brought, Held, ClientState, records_of}
use Rattle.oa_mux.specs.Steps.{EndsWith, Takes}
use Rattle.oa_mux.specs.promise.Steps.{client_state}
use Rattle.oa_mux.specs.declared.step.ClientItem.{ClientItem}
use Rattle.oa_mux.specs.declared.step.ClientItem.TheVariants as things
use Rattle.oa_mux.proofs.Records.{from_none}

Clients : Type 0
Clients = List (ℕ × ClientState)

-- whether a key is this client's
at : ℕ → ℕ → Bool
at client key = is_at (nat_cmp client) key

at_true : (client key : ℕ) → at client key ≡ true → client ≡ key
unfolding at
at_true client key e = eqb-true client key (sym (unsigned_tied client key) ∙ e)

at_self : (client : ℕ) → at client client ≡ true
unfolding at
at_self client = unsigned_tied client client ∙ eq-eqb client client refl

at_other : (client key : ℕ) → (client ≡ key → ⊥) → at client key ≡ false
at_other client key apart = by (at client key) refl
  where
    by : (b : Bool) → at client key ≡ b → at client key ≡ false
    by true e = absurd (apart (at_true client key e))
    by false e = e

found_head : (client : ℕ) (key : ℕ) (state : ClientState) (rest : List (ℕ × ClientState)) (b : Bool) → at client key ≡ b
    → client_state ((key, state) ∷ rest) client ≡ cond b (Some state) (client_state rest client)
unfolding at
found_head client key state rest b e = rw e refl

-- ---- a state that is changed
abbrev set_at : ℕ → List (ℕ × ClientState) → ClientState → List (ℕ × ClientState)
set_at client es new = set_value (is_at (nat_cmp client)) es new

set_head : (client key : ℕ) (state new : ClientState) (rest : List (ℕ × ClientState)) (b : Bool) → at client key ≡ b
    → set_at client ((key, state) ∷ rest) new ≡ cond b ((key, new) ∷ rest) ((key, state) ∷ set_at client rest new)
unfolding at
set_head client key state new rest b e = rw e refl

pub changed : (client : ℕ) (es : List (ℕ × ClientState)) (old new : ClientState) → Some old ≡ client_state es client
    → client_state (set_at client es new) client ≡ Some new
changed client [] old new found = absurd cc
changed client ((key, state) ∷ rest) old new found = by (at client key) refl (changed client rest old new)
  where
    by : (b : Bool) → at client key ≡ b → (Some old ≡ client_state rest client → client_state (set_at client rest new) client ≡ Some new)
        → client_state (set_at client ((key, state) ∷ rest) new) client ≡ Some new
    by true e next = ap (λ l. client_state l client) (set_head client key state new rest true e) ∙ found_head client key new rest true e
    by false e next =
        ap (λ l. client_state l client) (set_head client key state new rest false e)
        ∙ found_head client key state (set_at client rest new) false e
        ∙ next (found ∙ found_head client key state rest false e)

pub others_unchanged : (client : ℕ) (es : List (ℕ × ClientState)) (new : ClientState) (other : ℕ) → (client ≡ other → ⊥)
    → client_state (set_at client es new) other ≡ client_state es other
others_unchanged client [] new other apart = refl
others_unchanged client ((key, state) ∷ rest) new other apart = by (at client key) refl (others_unchanged client rest new other apart)
  where
    by : (b : Bool) → at client key ≡ b → (client_state (set_at client rest new) other ≡ client_state rest other)
        → client_state (set_at client ((key, state) ∷ rest) new) other ≡ client_state ((key, state) ∷ rest) other
    by true e next =
        let is = at_true client key e in
        let no = at_other other key (λ f. apart (is ∙ sym f)) in
        ap (λ l. client_state l other) (set_head client key state new rest true e) ∙ found_head other key new rest false no
        ∙ sym (found_head other key state rest false no)
    by false e next =
        ap (λ l. client_state l other) (set_head client key state new rest false e)
        ∙ found_head other key state (set_at client rest new) (at other key) refl
        ∙ ap (cond (at other key) (Some state)) next
        ∙ sym (found_head other key state rest (at other key) refl)

-- ---- a client that comes
abbrev insert_at : ℕ → List (ℕ × ClientState) → ClientState → List (ℕ × ClientState)
insert_at client es new = insert_entry nat_cmp es client new

insert_head : (client key : ℕ) (state new : ClientState) (rest : List (ℕ × ClientState)) (o : Ordering) → nat_cmp client key ≡ o
    → insert_at client ((key, state) ∷ rest) new ≡ match_ordering o ((client, new) ∷ (key, state) ∷ rest) ((key, new) ∷ rest)
    ((key, state) ∷ insert_at client rest new)
insert_head client key state new rest o e = rw e refl

is_equal : (client key : ℕ) (o : Ordering) → nat_cmp client key ≡ o → at client key ≡ is_eq o
unfolding at
is_equal client key o e = ap is_eq e

pub entered : (client : ℕ) (es : List (ℕ × ClientState)) (new : ClientState) → client_state (insert_at client es new) client ≡ Some new
entered client [] new = found_head client client new [] true (at_self client)
entered client ((key, state) ∷ rest) new = by (nat_cmp client key) refl (entered client rest new)
  where
    by : (o : Ordering) → nat_cmp client key ≡ o → (client_state (insert_at client rest new) client ≡ Some new)
        → client_state (insert_at client ((key, state) ∷ rest) new) client ≡ Some new
    by Less e next = ap (λ l. client_state l client) (insert_head client key state new rest Less e) ∙ found_head client client new ((key, state) ∷ rest) true
        (at_self client)
    by Equal e next = ap (λ l. client_state l client) (insert_head client key state new rest Equal e)
        ∙ found_head client key new rest true (is_equal client key Equal e)
    by Greater e next =
        ap (λ l. client_state l client) (insert_head client key state new rest Greater e)
        ∙ found_head client key state (insert_at client rest new) false (is_equal client key Greater e)
        ∙ next

pub others_stay : (client : ℕ) (es : List (ℕ × ClientState)) (new : ClientState) (other : ℕ) → (client ≡ other → ⊥)
    → client_state (insert_at client es new) other ≡ client_state es other
others_stay client [] new other apart = found_head other client new [] false (at_other other client (λ e. apart (sym e)))
others_stay client ((key, state) ∷ rest) new other apart = by (nat_cmp client key) refl (others_stay client rest new other apart)
  where
    by : (o : Ordering) → nat_cmp client key ≡ o → (client_state (insert_at client rest new) other ≡ client_state rest other)
        → client_state (insert_at client ((key, state) ∷ rest) new) other ≡ client_state ((key, state) ∷ rest) other
    by Less e next =
        ap (λ l. client_state l other) (insert_head client key state new rest Less e) ∙ found_head other client new ((key, state) ∷ rest) false
        (at_other other client (λ f. apart (sym f)))
    by Equal e next =
        let is = at_true client key (is_equal client key Equal e) in
        let no = at_other other key (λ f. apart (is ∙ sym f)) in
        ap (λ l. client_state l other) (insert_head client key state new rest Equal e) ∙ found_head other key new rest false no
        ∙ sym (found_head other key state rest false no)
    by Greater e next =
        ap (λ l. client_state l other) (insert_head client key state new rest Greater e)
        ∙ found_head other key state (insert_at client rest new) (at other key) refl
        ∙ ap (cond (at other key) (Some state)) next
        ∙ sym (found_head other key state rest (at other key) refl)

-- ---- a client that goes
abbrev remove_at : ℕ → List (ℕ × ClientState) → List (ℕ × ClientState)
remove_at client es = remove_entry (is_at (nat_cmp client)) es

remove_head : (client key : ℕ) (state : ClientState) (rest : List (ℕ × ClientState)) (b : Bool) → at client key ≡ b
    → remove_at client ((key, state) ∷ rest) ≡ cond b rest ((key, state) ∷ remove_at client rest)
unfolding at
remove_head client key state rest b e = rw e refl

pub others_left : (client : ℕ) (es : List (ℕ × ClientState)) (other : ℕ) → (client ≡ other → ⊥)
    → client_state (remove_at client es) other ≡ client_state es other
others_left client [] other apart = refl
others_left client ((key, state) ∷ rest) other apart = by (at client key) refl (others_left client rest other apart)
  where
    by : (b : Bool) → at client key ≡ b → (client_state (remove_at client rest) other ≡ client_state rest other)
        → client_state (remove_at client ((key, state) ∷ rest)) other ≡ client_state ((key, state) ∷ rest) other
    by true e next =
        let is = at_true client key e in
        ap (λ l. client_state l other) (remove_head client key state rest true e)
        ∙ sym (found_head other key state rest false (at_other other key (λ f. apart (is ∙ sym f))))
    by false e next =
        ap (λ l. client_state l other) (remove_head client key state rest false e)
        ∙ found_head other key state (remove_at client rest) (at other key) refl
        ∙ ap (cond (at other key) (Some state)) next
        ∙ sym (found_head other key state rest (at other key) refl)

pub gone : (client : ℕ) (es : List (ℕ × ClientState)) → IsStrictlySortedBy nat_cmp (keys_of es) → client_state (remove_at client es) client ≡ None
gone client es rise =
    lookup-remove_entry (eq_by_cmp_equiv nat_cmp_total) (is_at (nat_cmp client))
    (λ x y e. ap (λ k. is_at (nat_cmp k) y) (eqb-true client x (sym (unsigned_tied client x) ∙ e))) client es
    (IsDistinct-from_sorted nat_cmp (keys_of es) rise)
    ∙ ap (λ b. cond b None (client_state es client)) (unsigned_tied client client ∙ eq-eqb client client refl)

-- ---- what is said of a state, where it stands in a list
pub ends_as : (result result' : Option End) (old old' new new' : Option ClientState) → result ≡ result' → old ≡ old' → new ≡ new' → EndsWith result' old' new'
    → EndsWith result old new
ends_as result result' old old' new new' r o n e = rw (r, o, n) e

pub brings_as : (old old' new new' : Option ClientState) (bytes : List ℕ) (all : List Brought) → old ≡ old' → new ≡ new' → ClientBrings old' bytes all new'
    → ClientBrings old bytes all new
brings_as old old' new new' bytes all o n b = subst (λ z. ClientBrings z bytes all new) (sym o) (subst (λ z. ClientBrings old' bytes all z) (sym n) b)

-- a client that was not there is as one that has sent nothing yet
pub brings_first : (at : ClientState) (bytes : List ℕ) (all : List Brought) (new : Option ClientState) → at ≡ Held [] → 0 < length bytes
    → ClientBrings (Some at) bytes all new → ClientBrings None bytes all new
brings_first at bytes all new is some b = from_none bytes all new some (subst (λ z. ClientBrings (Some z) bytes all new) is b)

pub absent_ends : EndsWith (Some Closed) None None
unfolding records_of
absent_ends = refl

-- a step takes something
pub some_taken : (taken : ℕ) (what : ClientItem) (bytes : List ℕ) → Takes taken what (length bytes) → 0 < length bytes → 0 < length (take taken bytes)
some_taken taken things.Nothing bytes t some = let len = length-take-le taken bytes (omega (arith, t)) in omega (arith, len, t, some)
some_taken taken (things.Body r) bytes t some =
    let len = length-take-le taken bytes t.1 in
    let more = t.0 in
    omega (arith, len, more)
some_taken taken (things.Ends why) bytes t some =
    let len = length-take-le taken bytes t.1 in
    let more = t.0 in
    omega (arith, len, more)
