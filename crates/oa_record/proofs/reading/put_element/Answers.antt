use Rattle.std.proofs.Common.{◌≡◌, ◌++◌, ◌∷◌, [], Bor, ℕ, List, length, map, ap, subst, sym, ◌∙◌}
use Rattle.std.proofs.lemmas.List.{length-map}
use Rattle.oa_record.specs.promise.Asks.{AllSpell}
use Rattle.oa_record.specs.Judging.{RefusesFields, put_fault}
use Rattle.oa_record.proofs.Requests.{refuses_put, takes_put}
use Rattle.oa_record.proofs.reading.put_element.Goals as goal

pub returns-in-Err : goal.returns-in-Err
returns-in-Err c =
    let all : map (λ f. f.now) c.deref.result.now ≡ c.args.call.fields ++ c.args.value.now ∷ [] = rw c.deref.ensures.value c.in_ok-fields.ensures.all in
    let count : length c.fields-count.result.now ≡ length c.args.call.fields = sym (length-map c.fields-count.result.now (λ (f : Bor (List ℕ)). f.now))
    ∙ ap length c.fields-count.ensures.value in
    let named : c.without_index.result ≡ put_fault (length c.args.call.fields) c.in-Err.fault = c.without_index.ensures
    ∙ ap (λ (n : ℕ). put_fault n c.in-Err.fault) count in
    rw named (refuses_put c.args.call c.args.indices c.args.value.now c.in-Err.fault
    (subst (λ (fs : List (List ℕ)). RefusesFields fs c.in-Err.fault) all c.in-Err.ensures.judged))

pub returns : goal.returns
returns c =
    let all : map (λ f. f.now) c.deref.result.now ≡ c.args.call.fields ++ c.args.value.now ∷ [] = rw c.deref.ensures.value c.in_ok-fields.ensures.all in
    takes_put c.args.call c.args.indices c.args.value.now c.in-Ok.values.items c.pop.new.self.items c.in-Some.value c.with.result
    (subst (λ (fs : List (List ℕ)). AllSpell fs c.in-Ok.values.items) all c.in-Ok.ensures.judged) c.in-Some.ensures.items c.with.ensures
