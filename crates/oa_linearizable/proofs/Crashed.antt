-- What a crash leaves of what many clients have asked over a store.
use Rattle.std.proofs.Common.{◌≡◌, ◌⊎◌, inl, inr, ⊎_elim, ℕ, ◌≤◌, IsTrue, Bool, true, false, true≢false, List, [], ◌∷◌, ◌++◌, length, map, drop, refl, sym}
use Rattle.std.proofs.Common.{ap, ◌∙◌, subst, arith, append_assoc}
use Rattle.std.proofs.lemmas.List.{append-nil, map-append}
use Rattle.oa_disk.specs.declared.disk.Disk.{Ghosts}
use Rattle.oa_group_commit.proofs.Called.{calls_none}
use Rattle.oa_group_commit.proofs.Calling.{session_called, session_ended, session_stands, session_stopped}
use Rattle.oa_group_commit.proofs.Entries.{either, joined_two, no_entry}
use Rattle.oa_group_commit.specs.promise.Groups.{concat_groups, MayBeLeft, CallsFor, HoldsPrefix, HoldsState, Trace}
use Rattle.oa_group_commit.specs.promise.Groups.{Exchange, body_of, reply_of}
use Rattle.oa_group_commit.specs.Sessions.{by_then}
use Rattle.oa_store.specs.declared.store.Store.{Store}
use Rattle.oa_server.specs.promise.SharedMachine.{shared_machine, ClientReply, Shared, failed_client_reply, shared}
use Rattle.oa_server.specs.promise.SharedMachine.{ServesStretch, all_told}
use Rattle.oa_server.specs.promise.SharedSessions.{asked_written}
use Rattle.oa_server.specs.promise.Storages.{OverStore, disk_of}
use Rattle.oa_server.specs.declared.desk.SharedGroup.{SharedGroup}
use Rattle.oa_server.specs.declared.engine.ServerState.{ServerState}
use Rattle.oa_server.specs.declared.storage.Storage.{Storage}
use Rattle.oa_server.specs.declared.storage.Storage.TheVariants.{Disk, Memory}
use Rattle.oa_mux.specs.promise.Marks.{Flush, Of, Tagged}
use Rattle.oa_mux.specs.promise.Readers.{Brought}
use Rattle.oa_mux.specs.promise.Talking.{AllTurned}
use Rattle.oa_decision.specs.promise.States.{State}
use Rattle.oa_history.specs.promise.Framed.{requests_in}
use Rattle.oa_history.proofs.Turns.{CallIn, SoFarIn, turned, turned_now}
use Rattle.oa_linearizable.specs.Clients.{input_of, result_of}
use Rattle.oa_linearizable.specs.Crashes.{EachEraIsLinearizable}
use Rattle.oa_linearizable.specs.promise.Histories.{IsFirstPart, IsLegal, Operation}
use Rattle.oa_linearizable.specs.promise.Tables.{inputs_in, result_for, the_table}
use Rattle.oa_linearizable.proofs.EachClient.{client_served}
use Rattle.oa_linearizable.proofs.Fronts.{Front, front_all, front_none}
use Rattle.oa_linearizable.proofs.Orders.{linearized, shorter}
use Rattle.oa_linearizable.proofs.Parts.{asked_by, done_as, done_inputs, done_legal, done_results, doubted_as, doubted_inputs, doubted_results, faulted_for}
use Rattle.oa_linearizable.proofs.Parts.{inputs_are, kept_legal, legal_two, lost_legal, refused_as, refused_inputs, refused_legal, refused_results}
use Rattle.oa_linearizable.proofs.Parts.{requests_two}
use Rattle.oa_linearizable.proofs.Told.{Groups, Told, ToldLate, ToldWell}

-- what is left, by the requests that were made and the replies that were told
pub record Found (f : Bool) (before : Shared) (bodies : List (List ℕ)) (replies : List ClientReply) (c : List ℕ) : Type 0 where
  pub order : List (Operation Brought ClientReply)
  pub after : Shared
  pub legal : IsLegal (the_table f) before order after
  pub holds : HoldsState shared_machine after c
  pub firsts : IsFirstPart (map input_of order) (map asked_by bodies)
  pub all : IsFirstPart (map result_for replies) (map result_of order)

-- more was asked
found_more : (f : Bool) (before : Shared) (bodies more : List (List ℕ)) (replies : List ClientReply) (c : List ℕ) → Found f before bodies replies c
    → Found f before (bodies ++ more) replies c
found_more f before bodies more replies c is = record {
  order = is.order;
  after = is.after;
  legal = is.legal;
  holds = is.holds;
  firsts = (
    is.firsts.0 ++ map asked_by more,
    map-append asked_by bodies more ∙ ap (λ (l : List (ℕ × Brought)). l ++ map asked_by more) is.firsts.1 ∙ append_assoc (map input_of is.order) is.firsts.0
        (map asked_by more),
  );
  all = is.all;
}

nothing_before : {X : Type 0} (xs ys : List X) → [] ≡ xs ++ ys → xs ≡ []
nothing_before [] ys is = refl
nothing_before (x ∷ xs) ys is = absurd (cc)

nothing_behind : {X : Type 0} (xs ys : List X) → [] ≡ xs ++ ys → ys ≡ []
nothing_behind [] ys is = sym is
nothing_behind (x ∷ xs) ys is = absurd (cc)

no_images : {X Y : Type 0} (h : X → Y) (xs : List X) → map h xs ≡ [] → xs ≡ []
no_images h [] is = refl
no_images h (x ∷ xs) is = absurd (cc)

-- a device fails or not
certain : (f : Bool) → (f ≡ false → ⊥) → f ≡ true
certain true other = refl
certain false other = absurd (other refl)

same_behind : {X : Type 0} (front xs ys : List X) → front ++ xs ≡ front ++ ys → xs ≡ ys
same_behind [] xs ys is = is
same_behind (x ∷ front) xs ys is = same_behind front xs ys (tail_of x (front ++ xs) (front ++ ys) is)
  where
    tail_of : {X : Type 0} (x : X) (us vs : List X) → x ∷ us ≡ x ∷ vs → us ≡ vs
    tail_of x us vs e = cc

run_split : (old : Shared) (front back : List (Exchange ClientReply)) (new : Shared) → Trace shared_machine old (front ++ back) new
    → (mid : Shared) × Trace shared_machine old front mid × Trace shared_machine mid back new
run_split old [] back new run = (old, refl, run)
run_split old (asked ∷ front) back new run = let rest = run_split run.0 front back new run.2 in (rest.0, (run.0, run.1, rest.1), rest.2)

map_four : {X Y : Type 0} (h : X → Y) (a b c d : List X) → map h (a ++ (b ++ (c ++ d))) ≡ map h a ++ (map h b ++ (map h c ++ map h d))
map_four h a b c d =
    map-append h a (b ++ (c ++ d)) ∙ ap (λ l. map h a ++ l) (map-append h b (c ++ d) ∙ ap (λ l. map h b ++ l) (map-append h c d))

four : {X : Type 0} {a b c d x y z w : List X} → a ≡ x → b ≡ y → c ≡ z → d ≡ w → a ++ (b ++ (c ++ d)) ≡ x ++ (y ++ (z ++ w))
four {a = a} {b = b} {c = c} {d = d} {x = x} {y = y} {z = z} one two three last =
    ap (λ l. l ++ (b ++ (c ++ d))) one ∙ ap (λ l. x ++ (l ++ (c ++ d))) two ∙ ap (λ l. x ++ (y ++ (l ++ d))) three ∙ ap (λ l. x ++ (y ++ (z ++ l))) last

module _ {D : Type 0} {g : Ghosts D} (start : D) (before : Shared) where
  -- all calls had ended, and no call of the device had failed
  found_well : (f : Bool) (edge : Store D g) (at : Shared) (bodies : List (List ℕ)) (replies : List ClientReply) (c : List ℕ)
      → ToldWell start before edge at bodies replies → HoldsState shared_machine at c → Found f before bodies replies c
  found_well f edge at bodies replies c was holds =
      let entries = concat_groups was.was.session.groups in
      record {
        order = map done_as entries;
        after = at;
        legal = done_legal f before at entries was.was.run;
        holds = holds;
        firsts = ([], ap (map asked_by) was.bodies_are ∙ sym (done_inputs entries) ∙ sym (append-nil (map input_of (map done_as entries))));
        all = ([], done_results entries before at was.was.run ∙ ap (map result_for) (sym was.replies_are) ∙ sym (append-nil (map result_for replies)));
      }

  -- one had failed
  module _ (disk : D) (at : Shared) (bodies : List (List ℕ)) (replies : List ClientReply) (c : List ℕ) (was : ToldLate g start before disk at bodies replies)
      (stop : ℕ) (le : g.moment disk ≤ stop) (may : MayBeLeft g disk stop c) where
    abbrev run : HoldsPrefix shared_machine (by_then stop (drop 1 was.was.moments)) before was.was.groups c
    run = session_stopped shared_machine g.moment g.image_since start disk before was.called at was.was stop c
        (omega (arith, was.was.run.past 0 _ was.was.run.start, le)) (λ k at. may k at)

    enough : length was.answered ≤ length run.done
    enough = omega (arith, run.enough, session_ended shared_machine g.moment g.image_since start disk before was.called at was.was stop le, was.count_is)

    -- the group in doubt is kept or not
    kept : IsFirstPart was.answered run.done
    kept = shorter was.answered was.faulted run.done run.later (sym was.groups_are ∙ run.groups_are) enough

    split : was.faulted ≡ kept.0 ++ run.later
    split = same_behind was.answered was.faulted (kept.0 ++ run.later)
        (sym was.groups_are ∙ run.groups_are ∙ ap (λ (l : Groups). l ++ run.later) kept.1 ∙ append_assoc was.answered kept.0 run.later)

    abbrev answered : List (Exchange ClientReply)
    answered = concat_groups was.answered

    abbrev doubted : List (Exchange ClientReply)
    doubted = concat_groups kept.0

    abbrev lost : List (Exchange ClientReply)
    lost = concat_groups run.later

    abbrev kept_order : List (Operation Brought ClientReply)
    kept_order = map done_as answered ++ (map doubted_as doubted ++ (map doubted_as lost ++ map refused_as was.others))

    doubted_are : concat_groups was.faulted ≡ doubted ++ lost
    doubted_are = ap concat_groups split ∙ joined_two kept.0 run.later

    kept_run : Trace shared_machine before (answered ++ doubted) run.state
    kept_run = subst (λ (l : List (Exchange ClientReply)). Trace shared_machine before l run.state) (ap concat_groups kept.1 ∙ joined_two was.answered kept.0)
        run.run

    found_late : Found true before bodies replies c
    found_late =
        let two = run_split before answered doubted run.state kept_run in
        record {
          order = kept_order;
          after = run.state;
          legal = legal_two true before two.0 run.state (map done_as answered) (map doubted_as doubted ++ (map doubted_as lost ++ map refused_as was.others))
              (done_legal true before two.0 answered two.1)
              (legal_two true two.0 run.state run.state (map doubted_as doubted) (map doubted_as lost ++ map refused_as was.others)
              (kept_legal two.0 run.state doubted two.2)
              (legal_two true run.state run.state run.state (map doubted_as lost) (map refused_as was.others) (lost_legal run.state lost)
              (refused_legal run.state was.others)));
          holds = run.holds;
          firsts = ([], all_inputs ∙ sym (append-nil (map input_of kept_order)));
          all = ([], all_results two ∙ sym (append-nil (map result_for replies)));
        }
      where
        all_inputs : map asked_by bodies ≡ map input_of kept_order
        all_inputs =
            ap (map asked_by) (was.bodies_are ∙ ap (λ (l : List (Exchange ClientReply)). map body_of l ++ was.others)
            (joined_two was.answered was.faulted ∙ ap (λ (l : List (Exchange ClientReply)). answered ++ l) doubted_are))
            ∙ map-append asked_by (map body_of (answered ++ (doubted ++ lost))) was.others
            ∙ ap (λ (l : List (ℕ × Brought)). l ++ map asked_by was.others)
            (ap (map asked_by) (map-append body_of answered (doubted ++ lost) ∙ ap (λ (l : List (List ℕ)). map body_of answered ++ l)
            (map-append body_of doubted lost))
            ∙ map-append asked_by (map body_of answered) (map body_of doubted ++ map body_of lost)
            ∙ ap (λ (l : List (ℕ × Brought)). map asked_by (map body_of answered) ++ l) (map-append asked_by (map body_of doubted) (map body_of lost)))
            ∙ append_assoc (map asked_by (map body_of answered)) (map asked_by (map body_of doubted) ++ map asked_by (map body_of lost))
            (map asked_by was.others)
            ∙ ap (λ (l : List (ℕ × Brought)). map asked_by (map body_of answered) ++ l)
            (append_assoc (map asked_by (map body_of doubted)) (map asked_by (map body_of lost)) (map asked_by was.others))
            ∙ four (sym (done_inputs answered)) (sym (doubted_inputs doubted)) (sym (doubted_inputs lost)) (sym (refused_inputs was.others))
            ∙ sym (map_four input_of (map done_as answered) (map doubted_as doubted) (map doubted_as lost) (map refused_as was.others))

        all_results : (two : (mid : Shared) × Trace shared_machine before answered mid × Trace shared_machine mid doubted run.state)
            → map result_of kept_order ≡ map result_for replies
        all_results two =
            map_four result_of (map done_as answered) (map doubted_as doubted) (map doubted_as lost) (map refused_as was.others)
            ∙ four (done_results answered before two.0 two.1) (doubted_results doubted) (doubted_results lost) (refused_results was.others)
            ∙ sym (map_four result_for (map reply_of answered) (map faulted_for doubted) (map faulted_for lost) (map failed_client_reply was.others))
            ∙ ap (map result_for) (ap (λ (l : List ClientReply). map reply_of answered ++ l)
            (sym (append_assoc (map faulted_for doubted) (map faulted_for lost) (map failed_client_reply was.others))
            ∙ ap (λ (l : List ClientReply). l ++ map failed_client_reply was.others)
            (sym (map-append faulted_for doubted lost) ∙ ap (map faulted_for) (sym doubted_are))) ∙ sym was.replies_are)

  -- the call was under way that ends in this turn
  module _ (f : Bool) (old new : Store D g) (at after : Shared) (bodies own : List (List ℕ)) (replies told : List ClientReply) (size stop : ℕ) (c : List ℕ)
      (le : g.moment old.disk ≤ stop) (may : MayBeLeft g new.disk stop c) where
    found_called : ToldWell start before old at bodies replies → ServesStretch size old new at (record { bodies = own; told = told }) after
        → old.stopped ≡ false → Found f before (bodies ++ own) replies c
    found_called was serves going =
        let is = serves.served going in
        let now = session_called shared_machine {g = g} start old new before at after was.called (record { size = size; bodies = own; replies = told }) was.was
        is in
        let run = session_stopped shared_machine g.moment g.image_since start new.disk before
        (was.called ++ record { size = size; bodies = own; replies = told } ∷ []) after now stop c
        (omega (arith, was.was.session.run.past 0 _ was.was.session.run.start, le)) (λ k at. may k at) in
        let stands = session_stands shared_machine {g = g} start old new before at after was.called (record { size = size; bodies = own; replies = told })
        was.was is stop le in
        let groups = was.was.session.groups in
        let more = is.groups ++ is.faulted in
        let kept : IsFirstPart groups run.done = shorter groups more run.done run.later run.groups_are (omega (arith, was.was.whole, stands, run.enough)) in
        let entries = concat_groups run.done in
        let all_of : concat_groups groups ++ concat_groups more ≡ entries ++ concat_groups run.later = sym (joined_two groups more)
        ∙ ap concat_groups run.groups_are ∙ joined_two run.done run.later in
        let parts : entries ≡ concat_groups groups ++ concat_groups kept.0 = ap concat_groups kept.1 ∙ joined_two groups kept.0 in
        record {
          order = map done_as entries;
          after = run.state;
          legal = done_legal f before run.state entries run.run;
          holds = run.holds;
          firsts = (
            map asked_by (map body_of (concat_groups run.later) ++ is.others),
            ap (map asked_by) (ap (λ (l : List (List ℕ)). l ++ own) was.bodies_are
                ∙ ap (λ (l : List (List ℕ)). map body_of (concat_groups groups) ++ l) is.served.bodies_are
                ∙ sym (append_assoc (map body_of (concat_groups groups)) (map body_of (concat_groups more)) is.others)
                ∙ ap (λ (l : List (List ℕ)). l ++ is.others)
                (sym (map-append body_of (concat_groups groups) (concat_groups more)) ∙ ap (map body_of) all_of
                ∙ map-append body_of entries (concat_groups run.later))
                ∙ append_assoc (map body_of entries) (map body_of (concat_groups run.later)) is.others)
                ∙ map-append asked_by (map body_of entries) (map body_of (concat_groups run.later) ++ is.others)
                ∙ ap (λ (l : List (ℕ × Brought)). l ++ map asked_by (map body_of (concat_groups run.later) ++ is.others)) (sym (done_inputs entries)),
          );
          all = (
            map result_for (map reply_of (concat_groups kept.0)),
            done_results entries before run.state run.run
                ∙ ap (map result_for) (ap (map reply_of) parts ∙ map-append reply_of (concat_groups groups) (concat_groups kept.0))
                ∙ map-append result_for (map reply_of (concat_groups groups)) (map reply_of (concat_groups kept.0))
                ∙ ap (λ (l : List ClientReply). map result_for l ++ map result_for (map reply_of (concat_groups kept.0))) (sym was.replies_are),
          );
        }

    found_later : ToldLate g start before old.disk at bodies replies → ServesStretch size old new at (record { bodies = own; told = told }) after
        → old.stopped ≡ true → Found true before (bodies ++ own) replies c
    found_later was serves stopped =
        found_more true before bodies own replies c
        (found_late old.disk at bodies replies c was stop le (subst (λ (d : D). MayBeLeft g d stop c) (serves.late stopped).disk may))

  -- nothing was told since the last call
  module _ (only : (d : D) (c : List ℕ) → IsTrue (g.is_honest d) → g.image_since d (g.moment d) c → g.image d c) (size : ℕ) where
    edge_before : (edge : Store D g) (at : Shared) (bodies held : List (List ℕ)) (replies : List ClientReply) (storage : Storage D g) (state : State)
        (desk : SharedGroup)
        → Told start before edge at bodies replies → SoFarIn {g = g} only size edge at storage state desk held → g.moment edge.disk ≤ g.moment (disk_of storage)
    edge_before edge at bodies held replies (Memory disk) state desk was now = absurd now
    edge_before edge at bodies held replies (Disk store) state desk was now = by (either edge.stopped)
      where
        by : (edge.stopped ≡ false) ⊎ (edge.stopped ≡ true) → g.moment edge.disk ≤ g.moment store.disk
        by (inr stopped) = omega (arith, ap g.moment (now.1.late stopped).disk)
        by (inl going) = on (either store.stopped)
          where
            on : (store.stopped ≡ false) ⊎ (store.stopped ≡ true) → g.moment edge.disk ≤ g.moment store.disk
            on (inl goes) = let run = ((now.1.going going).going goes).moments (was.well going).was.all in run.1.past 0 _ run.1.start
            on (inr fails) = let run = ((now.1.going going).broken fails).moments (was.well going).was.all in run.1.past 0 _ run.1.start

    found_held : (f : Bool) (edge : Store D g) (at : Shared) (bodies held : List (List ℕ)) (replies : List ClientReply) (storage : Storage D g) (state : State)
        (desk : SharedGroup) (stop : ℕ) (c : List ℕ)
        → Told start before edge at bodies replies → SoFarIn {g = g} only size edge at storage state desk held → (edge.stopped ≡ true → f ≡ true)
        → g.moment edge.disk ≤ stop → MayBeLeft g (disk_of storage) stop c → Found f before bodies replies c
    found_held f edge at bodies held replies (Memory disk) state desk stop c was now failing le may = absurd now
    found_held f edge at bodies held replies (Disk store) state desk stop c was now failing le may = by (either edge.stopped)
      where
        by : (edge.stopped ≡ false) ⊎ (edge.stopped ≡ true) → Found f before bodies replies c
        by (inr stopped) =
            subst (λ (b : Bool). Found b before bodies replies c) (sym (failing stopped))
            (found_late edge.disk at bodies replies c (was.late stopped) stop le (subst (λ (d : D). MayBeLeft g d stop c) (now.1.late stopped).disk may))
        by (inl going) = on (either store.stopped)
          where
            on : (store.stopped ≡ false) ⊎ (store.stopped ≡ true) → Found f before bodies replies c
            on (inl goes) =
                let is = (now.1.going going).going goes in
                let run = is.moments (was.well going).was.all in
                let left = run.1.images 0 (g.moment edge.disk) run.1.start c (may (g.moment edge.disk) le) in
                let none : concat_groups is.groups ≡ [] = no_entry (concat_groups is.groups) (sym is.out_are) in
                let empty : concat_groups left.done ≡ [] = nothing_before (concat_groups left.done) (concat_groups left.later)
                (sym none ∙ ap concat_groups left.groups_are ∙ joined_two left.done left.later) in
                let same : at ≡ left.state = subst (λ (l : List (Exchange ClientReply)). Trace shared_machine at l left.state) empty left.run in
                found_well f edge at bodies replies c (was.well going) (subst (λ (s : Shared). HoldsState shared_machine s c) (sym same) left.holds)
            on (inr fails) =
                let is = (now.1.going going).broken fails in
                let behind = nothing_behind (map reply_of (concat_groups is.groups)) (map faulted_for is.group ++ map failed_client_reply is.others)
                is.replies_are in
                let none = no_images faulted_for is.group (nothing_before (map faulted_for is.group) (map failed_client_reply is.others) (sym behind)) in
                absurd (calls_none shared_machine is.committed
                (subst (λ (l : List (Exchange ClientReply)). CallsFor shared_machine is.committed l) none is.called))

    -- whatever the device did
    device_failed : (f : Bool) (edge : Store D g) (at : Shared) (held : List (List ℕ)) (storage : Storage D g) (state : State) (desk : SharedGroup)
        → SoFarIn {g = g} only size edge at storage state desk held → (f ≡ false → OverStore storage (λ store. store.stopped ≡ false)) → edge.stopped ≡ true
        → f ≡ true
    device_failed f edge at held (Memory disk) state desk now well stopped = absurd now
    device_failed f edge at held (Disk store) state desk now well stopped = certain f (λ is. true≢false (sym (now.1.late stopped).stopped ∙ well is))

    -- a crash behind these turns, within the next one or before it
    module _ (f : Bool) (bodies : List (List ℕ)) (frames : List (ℕ × List ℕ)) (mid : ServerState D g)
        (was : Front {g = g} only size start before bodies frames mid.storage mid.host mid.desk)
        (well : f ≡ false → OverStore mid.storage (λ store. store.stopped ≡ false))
        (stop : ℕ) (c : List ℕ) (behind : g.moment (disk_of mid.storage) ≤ stop) where
      failing : was.edge.stopped ≡ true → f ≡ true
      failing stopped = device_failed f was.edge was.at (requests_in was.own) mid.storage mid.host mid.desk was.so_far well stopped

      edge_le : g.moment was.edge.disk ≤ stop
      edge_le = omega (arith, edge_before was.edge was.at was.asked (requests_in was.own) was.replies mid.storage mid.host mid.desk was.told was.so_far, behind)

      held_at : (more : List (List ℕ)) (held : List (List ℕ)) (storage : Storage D g) (state : State) (desk : SharedGroup)
          → SoFarIn {g = g} only size was.edge was.at storage state desk held → MayBeLeft g (disk_of storage) stop c
          → Found f before (bodies ++ more) was.replies c
      held_at more held storage state desk now may =
          subst (λ (l : List (List ℕ)). Found f before l was.replies c)
          (sym (append_assoc was.asked (requests_in was.own) more) ∙ ap (λ (l : List (List ℕ)). l ++ more) (sym was.bodies_are))
          (found_more f before was.asked (requests_in was.own ++ more) was.replies c
          (found_held f was.edge was.at was.asked held was.replies storage state desk stop c was.told now failing edge_le may))

      called_at : (more : List (List ℕ)) (own : List (Tagged Brought)) (told : List (ℕ × List ℕ)) (storage : Storage D g) (state : State) (desk : SharedGroup)
          → requests_in own ≡ requests_in was.own ++ more
          → CallIn {g = g} only size was.edge was.at own told storage state desk → MayBeLeft g (disk_of storage) stop c
          → Found f before (bodies ++ more) was.replies c
      called_at more own told storage state desk grows call may =
          subst (λ (l : List (List ℕ)). Found f before l was.replies c)
          (ap (λ (l : List (List ℕ)). was.asked ++ l) grows ∙ sym (append_assoc was.asked (requests_in was.own) more)
          ∙ ap (λ (l : List (List ℕ)). l ++ more) (sym was.bodies_are))
          (by (either was.edge.stopped))
        where
          left : MayBeLeft g call.mid.disk stop c
          left = subst (λ (s : Storage D g). MayBeLeft g (disk_of s) stop c) call.mid_is may

          by : (was.edge.stopped ≡ false) ⊎ (was.edge.stopped ≡ true) → Found f before (was.asked ++ requests_in own) was.replies c
          by (inl going) = found_called f was.edge call.mid was.at (shared state desk.owners) was.asked (requests_in own) was.replies call.told size stop c
              edge_le left (was.told.well going) call.serves going
          by (inr stopped) =
              subst (λ (b : Bool). Found b before (was.asked ++ requests_in own) was.replies c) (sym (failing stopped))
              (found_later f was.edge call.mid was.at (shared state desk.owners) was.asked (requests_in own) was.replies call.told size stop c edge_le left
              (was.told.late stopped) call.serves stopped)

      within : (ask : Tagged Brought) (told : List (ℕ × List ℕ)) (last : ServerState D g) → asked_written mid ask told last
          → MayBeLeft g (disk_of last.storage) stop c → Found f before (bodies ++ requests_in (ask ∷ [])) was.replies c
      within (Of client brought) told last is may =
          ⊎_elim
          (λ held. held_at (requests_in (Of client brought ∷ [])) (requests_in (was.own ++ Of client brought ∷ [])) last.storage last.host last.desk held.1 may)
          (λ call. called_at (requests_in (Of client brought ∷ [])) (was.own ++ Of client brought ∷ []) told last.storage last.host last.desk
          (requests_two was.own (Of client brought ∷ [])) call may)
          (turned {g = g} only size was.edge was.at mid.storage last.storage mid.host last.host mid.desk last.desk was.own client brought told was.so_far is)
      within Flush told last is may =
          called_at [] (was.own ++ Flush ∷ []) told last.storage last.host last.desk (requests_two was.own (Flush ∷ []))
          (turned_now {g = g} only size was.edge was.at mid.storage last.storage mid.host last.host mid.desk last.desk was.own told was.so_far is) may

      pub crashed : (next : List (Tagged Brought)) (unheard : List (List (ℕ × List ℕ))) (last : ServerState D g) → length next ≤ 1
          → AllTurned asked_written mid next unheard last → MayBeLeft g (disk_of last.storage) stop c
          → Found f before (bodies ++ requests_in next) was.replies c
      crashed [] [] last one turn may =
          held_at [] (requests_in was.own) mid.storage mid.host mid.desk was.so_far
          (subst (λ (e : ServerState D g). MayBeLeft g (disk_of e.storage) stop c) turn may)
      crashed (ask ∷ []) (told ∷ []) last one turn may =
          within ask told last (subst (λ (e : ServerState D g). asked_written mid ask told e) (sym turn.2) turn.1) may
      crashed [] (told ∷ tolds) last one turn may = absurd turn
      crashed (ask ∷ []) [] last one turn may = absurd turn
      crashed (ask ∷ []) (told ∷ (other ∷ tolds)) last one turn may = absurd turn.2
      crashed (ask ∷ (next ∷ asks)) tolds last one turn may = absurd (omega (arith, one))

pub each_era : {D : Type 0} {g : Ghosts D} → ((d : D) (c : List ℕ) → IsTrue (g.is_honest d) → g.image_since d (g.moment d) c → g.image d c)
    → EachEraIsLinearizable g
each_era {D} {g} only before era is =
    let f = era.has_failed in
    let size = is.first.desk.open_group.size in
    let none = front_none {g = g} only size era.start before is.first is.store is.over refl is.sits is.serves is.no_replies is.no_events in
    let front = front_all {g = g} only size era.start before [] [] is.first is.mid era.served is.tolds none is.run in
    let found = crashed {g = g} era.start before only size f (requests_in era.served) (all_told is.tolds) is.mid front is.well is.moment era.left is.behind
    is.next is.unheard is.last is.one is.turn is.may_be_left in
    let all = found_more f before (requests_in era.served ++ requests_in is.next) (requests_in is.others) front.replies era.left found in
    let asked : inputs_in (era.served ++ era.waiting) ≡ map asked_by ((requests_in era.served ++ requests_in is.next) ++ requests_in is.others) =
    inputs_are (era.served ++ era.waiting)
    ∙ ap (map asked_by) (requests_two era.served era.waiting ∙ ap (λ (l : List (Tagged Brought)). requests_in era.served ++ requests_in l) is.waiting_are
    ∙ ap (λ (l : List (List ℕ)). requests_in era.served ++ l) (requests_two is.next is.others)
    ∙ sym (append_assoc (requests_in era.served) (requests_in is.next) (requests_in is.others))) in
    record {
      replies = front.replies;
      frames_are = is.frames_are ∙ front.frames_are;
      order = all.order;
      after = all.after;
      linearized = λ history comes. linearized history (inputs_in (era.served ++ era.waiting)) (map result_for front.replies) all.order all.firsts.0 all.all.0
          comes (asked ∙ all.firsts.1) all.all.1;
      legal = all.legal;
      holds = all.holds;
      each_client = λ client. client_served client (era.served ++ era.waiting) era.frames front.replies all.order all.firsts.0 all.all.0
          (asked ∙ all.firsts.1) all.all.1 (is.frames_are ∙ front.frames_are);
    }
