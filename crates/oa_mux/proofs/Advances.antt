-- What a client's bytes bring, as it is kept.
use Rattle.std.proofs.Common.{◌≡◌, ◌<◌, ℕ, Bool, true, false, List, [], ◌∷◌, ◌++◌, length, take, drop, Some, None, refl, sym, ap, ◌∙◌, subst, arith}
use Rattle.std.proofs.lemmas.List.{length-take-le, take_all}
use Rattle.oa_frame.specs.declared.ends.End.{End}
use Rattle.oa_frame.specs.declared.ends.End.TheVariants.{Closed, Cut}
use Rattle.oa_mux.specs.promise.Marks.{Last}
use Rattle.oa_mux.specs.promise.Readers.{Body, Ends, Held, Over, ClientState, records_of}
use Rattle.oa_mux.specs.Readers.{ClientBrings, IsEnd, IsPartRecord, IsWholeRecord, kept}
use Rattle.oa_mux.specs.Steps.{FindsEnd, IsWholeBehind}
use Rattle.oa_mux.specs.declared.found.Found.TheVariants as found
use Rattle.oa_mux.proofs.Records.{brings_end, brings_over, brings_part, brings_whole}

all_taken : (bytes : List ℕ) → take (length bytes) bytes ≡ bytes
all_taken bytes = take_all (length bytes) bytes (omega arith)

pub passes_over : (at : ClientState) (over : Bool) (part bytes : List ℕ) → at ≡ kept over part → over ≡ true
    → ClientBrings (Some at) (take (length bytes) bytes) [] (Some at)
passes_over at over part bytes is e =
    let o : Over ≡ at = sym (is ∙ ap (λ b. kept b part) e) in
    subst (λ l. ClientBrings (Some at) l [] (Some at)) (sym (all_taken bytes)) (subst (λ z. ClientBrings (Some z) bytes [] (Some z)) o (brings_over bytes))

pub takes_part : (at : ClientState) (over : Bool) (part part' bytes : List ℕ) → at ≡ kept over part → over ≡ false → IsPartRecord (part ++ bytes)
    → part' ≡ part ++ bytes
    → ClientBrings (Some at) (take (length bytes) bytes) [] (Some (kept over part'))
takes_part at over part part' bytes is e p more =
    let o : Held part ≡ at = sym (is ∙ ap (λ b. kept b part) e) in
    let n : Held (part ++ bytes) ≡ kept over part' = sym (ap (λ b. kept b part') e ∙ ap Held more) in
    subst (λ l. ClientBrings (Some at) l [] (Some (kept over part'))) (sym (all_taken bytes))
    (subst (λ z. ClientBrings (Some z) bytes [] (Some (kept over part'))) o
    (subst (λ z. ClientBrings (Some (Held part)) bytes [] (Some z)) n (brings_part part bytes p)))

ends_at : (why : End) (part bytes : List ℕ) → 0 < length bytes → IsEnd why (part ++ bytes) → ClientBrings (Some (Held part)) bytes (Ends why ∷ []) (Some Over)
ends_at why part [] some e = absurd (omega (arith, some))
ends_at why part (y ∷ ys) some e = brings_end why part y ys e

pub takes_end : (at : ClientState) (over : Bool) (part bytes : List ℕ) (why : End) (n : ℕ) → at ≡ kept over part → over ≡ false
    → FindsEnd (found.Ends why n) part bytes
    → ClientBrings (Some at) (take n bytes) (Ends why ∷ []) (Some Over)
takes_end at over part bytes why n is e f =
    let o : Held part ≡ at = sym (is ∙ ap (λ b. kept b part) e) in
    let len = length-take-le n bytes f.1 in
    let some = f.0 in
    subst (λ z. ClientBrings (Some z) (take n bytes) (Ends why ∷ []) (Some Over)) o (ends_at why part (take n bytes) (omega (arith, len, some)) f.2)

pub whole_at : (part bytes : List ℕ) → 0 < length bytes → IsWholeRecord (part ++ bytes)
    → ClientBrings (Some (Held part)) bytes (Body (drop 4 (part ++ bytes)) ∷ []) (Some (Held []))
whole_at part [] some w = absurd (omega (arith, some))
whole_at part (y ∷ ys) some w = brings_whole part y ys w

pub takes_here : (at : ClientState) (over : Bool) (part bytes : List ℕ) → at ≡ kept over part → IsWholeBehind bytes at → part ≡ []
    → ClientBrings (Some at) bytes (Body (drop 4 bytes) ∷ []) (Some at)
takes_here at true part bytes is w none = absurd (subst (IsWholeBehind bytes) is w)
takes_here at false part bytes is w none =
    let o : Held [] ≡ at = sym (is ∙ ap Held none) in
    let v : IsWholeBehind bytes (Held []) = subst (IsWholeBehind bytes) (sym o) w in
    subst (λ z. ClientBrings (Some z) bytes (Body (drop 4 bytes) ∷ []) (Some z)) o (whole_at [] bytes v.0 v.1)

pub takes_gathered : (at : ClientState) (over : Bool) (part part' bytes all : List ℕ) → at ≡ kept over part → IsWholeBehind bytes at → all ≡ part ++ bytes
    → part' ≡ []
    → ClientBrings (Some at) bytes (Body (drop 4 all) ∷ []) (Some (kept over part'))
takes_gathered at true part part' bytes all is w more none = absurd (subst (IsWholeBehind bytes) is w)
takes_gathered at false part part' bytes all is w more none =
    let v : IsWholeBehind bytes (Held part) = subst (IsWholeBehind bytes) is w in
    subst (λ z. ClientBrings (Some z) bytes (Body (drop 4 all) ∷ []) (Some (Held part'))) (sym is)
    (subst (λ z. ClientBrings (Some (Held part)) bytes (Body (drop 4 all) ∷ []) (Some (Held z))) (sym none)
    (subst (λ l. ClientBrings (Some (Held part)) bytes (Body (drop 4 l) ∷ []) (Some (Held []))) (sym more) (whole_at part bytes v.0 v.1)))

-- ---- the end of a stream
pub over_before : (at : ClientState) (over : Bool) (part : List ℕ) → at ≡ kept over part → over ≡ true → records_of (Some at) Last ≡ ([], None)
unfolding records_of
over_before at over part is e = ap (λ (z : ClientState). records_of (Some z) Last) (is ∙ ap (λ b. kept b part) e)

pub ends_closed : (at : ClientState) (over : Bool) (part : List ℕ) → at ≡ kept over part → over ≡ false → part ≡ []
    → records_of (Some at) Last ≡ (Ends Closed ∷ [], None)
unfolding records_of
ends_closed at over part is e none = ap (λ (z : ClientState). records_of (Some z) Last) (is ∙ ap (λ b. kept b part) e ∙ ap Held none)

pub ends_cut : (at : ClientState) (over : Bool) (part : List ℕ) → at ≡ kept over part → over ≡ false → (part ≡ [] → ⊥)
    → records_of (Some at) Last ≡ (Ends Cut ∷ [], None)
unfolding records_of
ends_cut at over [] is e some = absurd (some refl)
ends_cut at over (x ∷ xs) is e some = ap (λ (z : ClientState). records_of (Some z) Last) (is ∙ ap (λ b. kept b (x ∷ xs)) e)
