-- An order linearizes a history.
use Rattle.std.proofs.Common.{◌≡◌, ◌==◌, ℕ, ◌<◌, ◌≤◌, Bool, true, false, if◌then◌else◌, List, [], ◌∷◌, ◌++◌, length, map, suc, refl, sym, ◌∙◌, ap, subst}
use Rattle.std.proofs.Common.{arith, append_assoc, length-append}
use Rattle.oa_linearizable.specs.Clients.{input_of, result_of}
use Rattle.oa_linearizable.specs.promise.Histories.{ComesInOrder, Invocation, Response, History, IsFirstPart}
use Rattle.oa_linearizable.specs.promise.Histories.{IsLinearizedBy, Operation, Precedes, invoked, of_client, responded}
use Rattle.oa_linearizable.specs.promise.Histories.{sequential}

-- ---- lists

head_same : {X : Type 0} (x y : X) (xs ys : List X) → x ∷ xs ≡ y ∷ ys → x ≡ y
head_same x y xs ys e = cc

tail_same : {X : Type 0} (x y : X) (xs ys : List X) → x ∷ xs ≡ y ∷ ys → xs ≡ ys
tail_same x y xs ys e = cc

none_some : {X : Type 0} (x : X) (xs : List X) → [] ≡ x ∷ xs → ⊥
none_some x xs e = cc

-- where the images are two lists, so is what they are of
pub record Halves {X Y : Type 0} (f : X → Y) (xs : List X) (front back : List Y) : Type 0 where
  pub first : List X
  pub second : List X
  pub are : xs ≡ first ++ second
  pub front_is : map f first ≡ front
  pub back_is : map f second ≡ back

pub halves : {X Y : Type 0} (f : X → Y) (xs : List X) (front back : List Y) → map f xs ≡ front ++ back → Halves f xs front back
halves f xs [] back is = record { first = []; second = xs; are = refl; front_is = refl; back_is = is }
halves f [] (y ∷ front) back is = absurd (none_some y (front ++ back) is)
halves f (x ∷ xs) (y ∷ front) back is =
    let rest = halves f xs front back (tail_same (f x) y (map f xs) (front ++ back) is) in
    record {
      first = x ∷ rest.first;
      second = rest.second;
      are = ap (λ l. x ∷ l) rest.are;
      front_is = ap (λ y. y ∷ map f rest.first) (head_same (f x) y (map f xs) (front ++ back) is) ∙ ap (λ l. y ∷ l) rest.front_is;
      back_is = rest.back_is;
    }

-- the shorter of two first parts is one of the longer
pub shorter : {X : Type 0} (xs ys us vs : List X) → xs ++ ys ≡ us ++ vs → length xs ≤ length us → IsFirstPart xs us
shorter [] ys us vs same le = (us, refl)
shorter (x ∷ xs) ys [] vs same le = absurd (omega (arith, le))
shorter (x ∷ xs) ys (u ∷ us) vs same le =
    let rest = shorter xs ys us vs (tail_same x u (xs ++ ys) (us ++ vs) same) (omega (arith, le)) in
    (rest.0, ap (λ z. z ∷ us) (sym (head_same x u (xs ++ ys) (us ++ vs) same)) ∙ ap (λ l. x ∷ l) rest.1)

pub map_length : {X Y : Type 0} (f : X → Y) (xs : List X) → length (map f xs) ≡ length xs
map_length f [] = refl
map_length f (x ∷ xs) = ap suc (map_length f xs)

-- ---- clients

pub of_both : {X : Type 0} (client : ℕ) (xs ys : List (ℕ × X)) → of_client client (xs ++ ys) ≡ of_client client xs ++ of_client client ys
unfolding of_client
of_both client [] ys = refl
of_both client (x ∷ xs) ys = by (x.0 == client) (of_both client xs ys)
  where
    by : (b : Bool) → of_client client (xs ++ ys) ≡ of_client client xs ++ of_client client ys
        → (if b then x.1 ∷ of_client client (xs ++ ys) else of_client client (xs ++ ys)) ≡ (if b then x.1 ∷ of_client client xs else of_client client xs)
        ++ of_client client ys
    by true rest = ap (λ l. x.1 ∷ l) rest
    by false rest = rest

pub of_first : {X : Type 0} (client : ℕ) (front whole : List (ℕ × X)) → IsFirstPart front whole → IsFirstPart (of_client client front) (of_client client whole)
of_first client front whole is = (of_client client is.0, ap (of_client client) is.1 ∙ of_both client front is.0)

-- ---- events

invoked_both : {I R : Type 0} (xs ys : History I R) → invoked (xs ++ ys) ≡ invoked xs ++ invoked ys
unfolding invoked
invoked_both [] ys = refl
invoked_both (Invocation client input ∷ xs) ys = ap (λ l. (client, input) ∷ l) (invoked_both xs ys)
invoked_both (Response client result ∷ xs) ys = invoked_both xs ys

responded_both : {I R : Type 0} (xs ys : History I R) → responded (xs ++ ys) ≡ responded xs ++ responded ys
unfolding responded
responded_both [] ys = refl
responded_both (Invocation client input ∷ xs) ys = responded_both xs ys
responded_both (Response client result ∷ xs) ys = ap (λ l. (client, result) ∷ l) (responded_both xs ys)

inputs_are : {I R : Type 0} (order : List (Operation I R)) → invoked (sequential order) ≡ map input_of order
unfolding invoked sequential
inputs_are [] = refl
inputs_are (one ∷ order) = ap (λ l. (one.client, one.input) ∷ l) (inputs_are order)

results_are : {I R : Type 0} (order : List (Operation I R)) → responded (sequential order) ≡ map result_of order
unfolding responded sequential
results_are [] = refl
results_are (one ∷ order) = ap (λ l. (one.client, one.result) ∷ l) (results_are order)

in_parts : {I R : Type 0} (xs ys : List (Operation I R)) → sequential (xs ++ ys) ≡ sequential xs ++ sequential ys
unfolding sequential
in_parts [] ys = refl
in_parts (one ∷ xs) ys = ap (λ l. Invocation one.client one.input ∷ (Response one.client one.result ∷ l)) (in_parts xs ys)

module _ {I R : Type 0} (history : History I R) (inputs : List (ℕ × I)) (results : List (ℕ × R)) (order : List (Operation I R)) (open_calls : List (ℕ × I))
    (unheard : List (ℕ × R)) (comes : ComesInOrder history inputs results) (first : inputs ≡ map input_of order ++ open_calls)
    (all : map result_of order ≡ results ++ unheard) where
  received : map result_of order ≡ responded history ++ (comes.results_are.0 ++ unheard)
  received = all ∙ ap (λ l. l ++ unheard) comes.results_are.1 ∙ append_assoc (responded history) comes.results_are.0 unheard

  in_time : (a i b j : ℕ) → Precedes history a i b j → Precedes (sequential order) a i b j
  in_time a i b j before =
      let heard : map result_of order ≡ responded before.past ++ (responded before.future ++ (comes.results_are.0 ++ unheard)) =
      received ∙ ap (λ l. l ++ (comes.results_are.0 ++ unheard)) (ap responded before.point ∙ responded_both before.past before.future)
      ∙ append_assoc (responded before.past) (responded before.future) (comes.results_are.0 ++ unheard) in
      let parts = halves result_of order (responded before.past) (responded before.future ++ (comes.results_are.0 ++ unheard)) heard in
      let asked : map input_of parts.first ++ (map input_of parts.second ++ open_calls) ≡ invoked before.past ++ invoked before.future =
      sym (append_assoc (map input_of parts.first) (map input_of parts.second) open_calls)
      ∙ ap (λ l. l ++ open_calls) (sym (map_both parts.first parts.second) ∙ ap (map input_of) (sym parts.are)) ∙ sym first ∙ sym comes.inputs_are
      ∙ ap invoked before.point ∙ invoked_both before.past before.future in
      let few : length (map input_of parts.first) ≤ length (invoked before.past) =
      omega (
        arith,
        map_length input_of parts.first,
        map_length result_of parts.first,
        ap length parts.front_is,
        comes.caused before.past before.future before.point,
      ) in
      let begun = of_first b (map input_of parts.first) (invoked before.past)
      (shorter (map input_of parts.first) (map input_of parts.second ++ open_calls) (invoked before.past) (invoked before.future) asked few) in
      record {
        past = sequential parts.first;
        future = sequential parts.second;
        point = ap sequential parts.are ∙ in_parts parts.first parts.second;
        ended = subst (λ l. i < length (of_client a l)) (sym (results_are parts.first ∙ parts.front_is)) before.ended;
        later = subst (λ l. length (of_client b l) ≤ j) (sym (inputs_are parts.first))
            (omega (arith, before.later, ap length begun.1, length-append (of_client b (map input_of parts.first)) begun.0));
      }
    where
      map_both : (xs ys : List (Operation I R)) → map input_of (xs ++ ys) ≡ map input_of xs ++ map input_of ys
      map_both [] ys = refl
      map_both (x ∷ xs) ys = ap (λ l. input_of x ∷ l) (map_both xs ys)

  -- an order linearizes such a history, if it has its first operations, and all results that have come
  pub linearized : IsLinearizedBy history order
  linearized = record {
    calls = λ client. of_first client (invoked (sequential order)) (invoked history)
        (open_calls, comes.inputs_are ∙ first ∙ ap (λ l. l ++ open_calls) (sym (inputs_are order)));
    results = λ client. of_first client (responded history) (responded (sequential order)) (comes.results_are.0 ++ unheard, results_are order ∙ received);
    real_time = in_time;
  }
