-- One client alone is answered as by a server of one client.
use Rattle.std.proofs.Common.{◌≡◌, ℕ, true, false, List, [], ◌∷◌, ◌++◌, map, Option, Some, None, refl, sym, ap, ◌∙◌, subst, append_assoc}
use Rattle.std.proofs.lemmas.List.{append-nil, map-append}
use Rattle.oa_disk.specs.declared.disk.Disk.{Ghosts}
use Rattle.oa_frame.specs.declared.ends.End.{End}
use Rattle.oa_group_commit.specs.promise.Groups.{concat_groups, Trace, IsServed, Exchange, body_of, reply_of}
use Rattle.oa_group_commit.proofs.Entries.{run_append}
use Rattle.oa_turn.proofs.Counted.{count_none}
use Rattle.oa_turn.specs.promise.ClientLocks.{ClientLock, of_others}
use Rattle.oa_turn.specs.Counts.{count_in, locked_name}
use Rattle.oa_record.specs.promise.Asks.{Asks, IsStub}
use Rattle.oa_record.specs.promise.Replacement.{is_replacement}
use Rattle.oa_record.specs.promise.Replies.{ReplyValue, reply_record}
use Rattle.oa_record.specs.declared.request.Request.{Request}
use Rattle.oa_store.specs.declared.store.Store.{Store}
use Rattle.oa_server.specs.promise.SharedSessions.{all_frames, frames_of, AsksIn}
use Rattle.oa_server.specs.Ledgers.{HasLedger, OwnsAll}
use Rattle.oa_server.specs.OneClient.{AsksBodies, IsBehindEnd, IsUnlocked, OneClientInMemory, OneClientOverStore, end_frames, frames_to}
use Rattle.oa_server.specs.promise.SharedMachine.{end_keeps, shared_machine, ClientReply, Leaves, Replies, Shared}
use Rattle.oa_server.specs.promise.SharedMachine.{TurnsFor, behind_end, shared, tagged_body, Stretch, all_told}
use Rattle.oa_server.specs.Stretches.{ServesStretches, bodies_of, cut_at_now, told_in}
use Rattle.oa_server.specs.declared.engine.ServerState.{ServerState}
use Rattle.oa_server.specs.declared.storage.Storage.{Storage}
use Rattle.oa_server.proofs.LockTurns.{OneRequest}
use Rattle.oa_server.proofs.Ledgered.{body_of_one, body_told, clients_keep, end_of_one, for_keeps, run_of_one, runs_keep, turn_of_one}
use Rattle.oa_server.proofs.SharedParts.{goes_before}
use Rattle.oa_mux.specs.promise.Marks.{Flush, Of, Tagged}
use Rattle.oa_mux.specs.promise.Readers.{Body, Brought, Ends}
use Rattle.oa_decision.specs.promise.States.{State}
use Rattle.oa_turn.specs.promise.Plans.{HoldsSame}
use Rattle.oa_turn.specs.promise.Turns.{Run}

one_first : (told : List (ℕ × List ℕ)) (tolds : List (List (ℕ × List ℕ))) → all_told (told ∷ tolds) ≡ told ++ all_told tolds
unfolding all_told
one_first told tolds = refl

none_first : all_told [] ≡ []
unfolding all_told
none_first = refl

told_nothing : told_in [] ≡ []
unfolding told_in
told_nothing = refl

told_first : (stretch : Stretch) (stretches : List Stretch) → told_in (stretch ∷ stretches) ≡ stretch.told ++ told_in stretches
unfolding told_in
told_first stretch stretches = refl

abbrev all_bodies : List (List (List ℕ)) → List (List ℕ)
all_bodies [] = []
all_bodies (bodies ∷ rest) = bodies ++ all_bodies rest

-- the end of a client, and what it is told, if there is one
abbrev end_bodies : ℕ → Option End → List (List ℕ)
end_bodies client None = []
end_bodies client (Some end) = tagged_body client (Ends end) ∷ []

abbrev end_replies : ℕ → Option End → List ClientReply
end_replies client None = []
end_replies client (Some end) = Leaves client end ∷ []

end_frames_are : (client : ℕ) (left : Option End) → all_frames (end_replies client left) ≡ end_frames client left
unfolding all_frames
end_frames_are client None = refl
end_frames_are client (Some end) = append-nil (frames_of (Leaves client end))

frames_two : (client : ℕ) (replies : List ReplyValue) (more : List ClientReply)
    → all_frames (map (λ (reply : ReplyValue). Replies client reply) replies ++ more) ≡ frames_to client replies ++ all_frames more
unfolding all_frames
frames_two client [] more = refl
frames_two client (reply ∷ replies) more = ap (λ (l : List (ℕ × List ℕ)). (client, reply_record reply) ∷ l) (frames_two client replies more)

-- what was asked, whatever *now* stands between
bodies_cut : (client : ℕ) (front : List (List ℕ)) (asks : List (Tagged Brought)) (bodies : List (List ℕ)) (left : Option End)
    → AsksBodies client asks bodies left
    → all_bodies (cut_at_now front (asks ++ Flush ∷ [])) ≡ front ++ (map (λ (body : List ℕ). tagged_body client (Body body)) bodies ++ end_bodies client left)
unfolding cut_at_now
bodies_cut client front [] [] None is = refl
bodies_cut client front [] [] (Some end) is = absurd is
bodies_cut client front [] (body ∷ bodies) left is = absurd is
bodies_cut client front (Flush ∷ asks) bodies left is = ap (λ (l : List (List ℕ)). front ++ l) (bodies_cut client [] asks bodies left is)
bodies_cut client front (Of other (Ends why) ∷ asks) [] None is = absurd is
bodies_cut client front (Of other (Ends why) ∷ asks) [] (Some end) is =
    bodies_cut client (front ++ tagged_body other (Ends why) ∷ []) asks [] None is.2
    ∙ append_assoc front (tagged_body other (Ends why) ∷ []) []
    ∙ ap (λ (l : List ℕ). front ++ l ∷ []) (ap (λ (c : ℕ). tagged_body c (Ends why)) is.0 ∙ ap (λ (w : End). tagged_body client (Ends w)) is.1)
bodies_cut client front (Of other (Ends why) ∷ asks) (body ∷ bodies) left is = absurd is
bodies_cut client front (Of other (Body own) ∷ asks) [] left is = absurd is
bodies_cut client front (Of other (Body own) ∷ asks) (body ∷ bodies) left is =
    bodies_cut client (front ++ tagged_body other (Body own) ∷ []) asks bodies left is.2
    ∙ append_assoc front (tagged_body other (Body own) ∷ []) (map (λ (b : List ℕ). tagged_body client (Body b)) bodies ++ end_bodies client left)
    ∙ ap (λ (l : List ℕ). front ++ l ∷ (map (λ (b : List ℕ). tagged_body client (Body b)) bodies ++ end_bodies client left))
    (ap (λ (c : ℕ). tagged_body c (Body own)) is.0 ∙ ap (λ (b : List ℕ). tagged_body client (Body b)) is.1)

-- a run is divided where its requests are
record RunsInTwo (old new : Shared) (entries : List (Exchange ClientReply)) (xs ys : List (List ℕ)) : Type 0 where
  front : List (Exchange ClientReply)
  back : List (Exchange ClientReply)
  mid : Shared
  parts : entries ≡ front ++ back
  first : map body_of front ≡ xs
  second : map body_of back ≡ ys
  run : Trace shared_machine old front mid
  rest : Trace shared_machine mid back new

in_two : (old new : Shared) (entries : List (Exchange ClientReply)) (xs ys : List (List ℕ)) → Trace shared_machine old entries new
    → map body_of entries ≡ xs ++ ys → RunsInTwo old new entries xs ys
in_two old new entries [] ys run is = record { front = []; back = entries; mid = old; parts = refl; first = refl; second = is; run = refl; rest = run }
in_two old new [] (x ∷ xs) ys run is = absurd cc
in_two old new (asked ∷ entries) (x ∷ xs) ys run is =
    let own : asked.body ≡ x = cc in
    let others : map body_of entries ≡ xs ++ ys = cc in
    let more = in_two run.0 new entries xs ys run.2 others in
    record {
      front = asked ∷ more.front;
      back = more.back;
      mid = more.mid;
      parts = ap (λ (l : List (Exchange ClientReply)). asked ∷ l) more.parts;
      first = ap (λ (l : List ℕ). l ∷ map body_of more.front) own ∙ ap (λ (l : List (List ℕ)). x ∷ l) more.first;
      second = more.second;
      run = (run.0, run.1, more.run);
      rest = more.rest;
    }

run_none : (old new : State) (replies : List ReplyValue) → Run old [] replies new → (replies ≡ []) × (new ≡ old)
run_none old new [] is = (refl, is)
run_none old new (reply ∷ replies) is = absurd is

-- the requests of a stretch in which no call of the device fails
record RunOf (before after : Shared) (bodies : List (List ℕ)) (told : List ClientReply) : Type 0 where
  entries : List (Exchange ClientReply)
  run : Trace shared_machine before entries after
  asked : bodies ≡ map body_of entries
  answered : told ≡ map reply_of entries

module _ (one_request : OneRequest) (is_stub : (body : List ℕ) → is_replacement body ≡ true → IsStub body)
    (asks_nothing : (body : List ℕ) (q : Request) → IsStub body → Asks body q → ⊥) where
  -- ---- the end of a client to which all locks belong
  record EndsAlone (client : ℕ) (old new : Shared) : Type 0 where
    unlocked : IsUnlocked old.state new.state
    has : HasLedger new
    own : OwnsAll client new

  end_alone : (client : ℕ) (end : End) (old new : Shared) → HasLedger old → OwnsAll client old → new ≡ behind_end client old → EndsAlone client old new
  end_alone client end old new has own is =
      let there : HasLedger new = clients_keep one_request is_stub asks_nothing client (Ends end) (Leaves client end) old new has
      (record { told_is = refl; behind = is }) in
      let none : new.locks ≡ [] = ap (λ (s : Shared). s.locks) is ∙ own in
      let keeps = subst (λ (s : Shared). (s.state.bank ≡ old.state.bank) × HoldsSame old.state s.state) (sym is) (end_keeps client old) in
      record {
        unlocked = record {
          bank = keeps.0;
          same = keeps.1;
          none = λ name. there.ledger.counted name ∙ ap (λ (l : List ClientLock). count_in name (map locked_name l)) none ∙ count_none name;
        };
        has = there;
        own = ap (λ (l : List ClientLock). of_others client l) none;
      }

  -- ---- in memory
  module _ {D : Type 0} {g : Ghosts D} where
    in_memory : OneClientInMemory g
    in_memory client disk old new [] [] None [] is has own asks
        run = record { replies = []; mid = old.host; run = refl; are = none_first; behind = ap (λ (e : ServerState D g). e.host) run }
    in_memory client disk old new [] [] None (told ∷ tolds) is has own asks run = absurd run
    in_memory client disk old new [] [] (Some end) tolds is has own asks run = absurd asks
    in_memory client disk old new [] (body ∷ bodies) left tolds is has own asks run = absurd asks
    in_memory client disk old new (Of other (Ends why) ∷ rest) [] None tolds is has own asks run = absurd asks
    in_memory client disk old new (Of other (Ends why) ∷ rest) (body ∷ bodies) left tolds is has own asks run = absurd asks
    in_memory client disk old new (Of other (Ends why) ∷ rest) [] (Some end) [] is has own asks run = absurd run
    in_memory client disk old new (Of other (Body sent) ∷ rest) [] left tolds is has own asks run = absurd asks
    in_memory client disk old new (Flush ∷ rest) bodies left [] is has own asks run = absurd run
    in_memory client disk old new (Of other (Body sent) ∷ rest) (body ∷ bodies) left [] is has own asks run = absurd run
    in_memory client disk old new (Flush ∷ rest) bodies left (told ∷ tolds) is has own asks run =
        let one = subst (λ (s : Storage D g). AsksIn s old.host old.desk Flush told run.0.storage run.0.host run.0.desk) is run.1 in
        let more = in_memory client disk run.0 new rest bodies left tolds one.0 (subst (λ (s : Shared). HasLedger s) (sym one.1.1) has)
        (subst (λ (s : Shared). OwnsAll client s) (sym one.1.1) own) asks run.2 in
        record {
          replies = more.replies;
          mid = more.mid;
          run = subst (λ (s : State). Run s bodies more.replies more.mid) (ap (λ (s : Shared). s.state) one.1.1) more.run;
          are = one_first told tolds ∙ ap (λ (l : List (ℕ × List ℕ)). l ++ all_told tolds) one.1.0 ∙ more.are;
          behind = more.behind;
        }
    in_memory client disk old new (Of other (Ends why) ∷ rest) [] (Some end) (told ∷ tolds) is has own asks run =
        let one = subst (λ (s : Storage D g). AsksIn s old.host old.desk (Of other (Ends why)) told run.0.storage run.0.host run.0.desk) is run.1 in
        let before = shared old.host old.desk.owners in
        let mid = shared run.0.host run.0.desk.owners in
        let due = end_alone client end before mid has own (one.1.2.behind ∙ ap (λ (c : ℕ). behind_end c before) asks.0) in
        let more = in_memory client disk run.0 new rest [] None tolds one.0 due.has due.own asks.2 run.2 in
        let none = run_none run.0.host more.mid more.replies more.run in
        record {
          replies = [];
          mid = old.host;
          run = refl;
          are = one_first told tolds
              ∙ ap (λ (l : List (ℕ × List ℕ)). l ++ all_told tolds)
              (one.1.1 ∙ ap frames_of (one.1.2.told_is ∙ ap (λ (c : ℕ). Leaves c why) asks.0 ∙ ap (λ (w : End). Leaves client w) asks.1))
              ∙ ap (λ (l : List (ℕ × List ℕ)). frames_of (Leaves client end) ++ l) (more.are ∙ ap (λ (l : List ReplyValue). frames_to client l ++ []) none.0)
              ∙ append-nil (frames_of (Leaves client end));
          behind = subst (λ (s : State). IsUnlocked old.host s) (sym (more.behind ∙ none.1)) due.unlocked;
        }
    in_memory client disk old new (Of other (Body sent) ∷ rest) (body ∷ bodies) left (told ∷ tolds) is has own asks run =
        let one = subst (λ (s : Storage D g). AsksIn s old.host old.desk (Of other (Body sent)) told run.0.storage run.0.host run.0.desk) is run.1 in
        let before = shared old.host old.desk.owners in
        let mid = shared run.0.host run.0.desk.owners in
        let answers = one.1.2 in
        let turn = subst (λ (b : List ℕ). TurnsFor client b answers.reply before mid) asks.1
        (subst (λ (c : ℕ). TurnsFor c sent answers.reply before mid) asks.0 answers.turn) in
        let due = turn_of_one one_request is_stub asks_nothing client before mid body answers.reply has own turn in
        let more = in_memory client disk run.0 new rest bodies left tolds one.0
        (for_keeps one_request is_stub asks_nothing client body answers.reply before mid has turn) due.1 asks.2 run.2 in
        record {
          replies = answers.reply ∷ more.replies;
          mid = more.mid;
          run = (run.0.host, due.0, more.run);
          are = one_first told tolds
              ∙ ap (λ (l : List (ℕ × List ℕ)). l ++ all_told tolds)
              (one.1.1 ∙ ap frames_of answers.told_is ∙ ap (λ (c : ℕ). (c, reply_record answers.reply) ∷ []) asks.0)
              ∙ ap (λ (l : List (ℕ × List ℕ)). (client, reply_record answers.reply) ∷ l) more.are;
          behind = more.behind;
        }

    pub one_in_memory : OneClientInMemory g
    one_in_memory client disk old new asks bodies left tolds is has own are run = in_memory client disk old new asks bodies left tolds is has own are run

  -- ---- over a store
  -- each is told a reply
  record ToldAll (client : ℕ) (entries : List (Exchange ClientReply)) : Type 0 where
    replies : List ReplyValue
    are : map reply_of entries ≡ map (λ (reply : ReplyValue). Replies client reply) replies

  told_all : (client : ℕ) (old new : Shared) (entries : List (Exchange ClientReply)) (bodies : List (List ℕ)) → Trace shared_machine old entries new
      → map body_of entries ≡ map (λ (body : List ℕ). tagged_body client (Body body)) bodies → ToldAll client entries
  told_all client old new [] bodies run is = record { replies = []; are = refl }
  told_all client old new (asked ∷ entries) [] run is = absurd cc
  told_all client old new (asked ∷ entries) (body ∷ bodies) run is =
      let own : asked.body ≡ tagged_body client (Body body) = cc in
      let others : map body_of entries ≡ map (λ (b : List ℕ). tagged_body client (Body b)) bodies = cc in
      let one = body_told one_request is_stub asks_nothing client body asked old run.0 own run.1 in
      let rest = told_all client run.0 new entries bodies run.2 others in
      record {
        replies = one.0 ∷ rest.replies;
        are = ap (λ (r : ClientReply). r ∷ map reply_of entries) one.1 ∙ ap (λ (l : List ClientReply). Replies client one.0 ∷ l) rest.are;
      }

  -- all locks are still its own
  run_owns : (client : ℕ) (old new : Shared) (entries : List (Exchange ClientReply)) (bodies : List (List ℕ)) → HasLedger old → OwnsAll client old
      → Trace shared_machine old entries new
      → map body_of entries ≡ map (λ (body : List ℕ). tagged_body client (Body body)) bodies → OwnsAll client new
  run_owns client old new [] bodies has own run is = subst (λ (s : Shared). OwnsAll client s) run own
  run_owns client old new (asked ∷ entries) [] has own run is = absurd cc
  run_owns client old new (asked ∷ entries) (body ∷ bodies) has own run is =
      let same : asked.body ≡ tagged_body client (Body body) = cc in
      let others : map body_of entries ≡ map (λ (b : List ℕ). tagged_body client (Body b)) bodies = cc in
      let told = body_told one_request is_stub asks_nothing client body asked old run.0 same run.1 in
      let turn = body_of_one one_request is_stub asks_nothing client body told.0 asked old run.0 same told.1 run.1 in
      run_owns client run.0 new entries bodies (for_keeps one_request is_stub asks_nothing client body told.0 old run.0 has turn)
      (turn_of_one one_request is_stub asks_nothing client old run.0 body told.0 has own turn).1 run.2 others

  -- and then it ends, if it does
  record ToldEnd (client : ℕ) (left : Option End) (old new : Shared) (entries : List (Exchange ClientReply)) : Type 0 where
    are : map reply_of entries ≡ end_replies client left
    behind : IsBehindEnd left old.state new.state

  told_end : (client : ℕ) (left : Option End) (old new : Shared) (entries : List (Exchange ClientReply)) → HasLedger old → OwnsAll client old
      → Trace shared_machine old entries new
      → map body_of entries ≡ end_bodies client left → ToldEnd client left old new entries
  told_end client None old new [] has own run is = record { are = refl; behind = ap (λ (s : Shared). s.state) (sym run) }
  told_end client None old new (asked ∷ entries) has own run is = absurd cc
  told_end client (Some end) old new [] has own run is = absurd cc
  told_end client (Some end) old new (asked ∷ (other ∷ entries)) has own run is = absurd cc
  told_end client (Some end) old new (asked ∷ []) has own run is =
      let same : asked.body ≡ tagged_body client (Ends end) = cc in
      let one = end_of_one one_request is_stub asks_nothing client end asked old run.0 same run.1 in
      record {
        are = ap (λ (r : ClientReply). r ∷ []) one.0;
        behind = (end_alone client end old new has own (sym run.2 ∙ one.1)).unlocked;
      }

  module _ {D : Type 0} {g : Ghosts D} where
    stretch_run : (size : ℕ) (old new : Store D g) (before after : Shared) (bodies : List (List ℕ)) (told : List ClientReply) → new.stopped ≡ false
        → IsServed shared_machine size old new before after bodies told → RunOf before after bodies told
    stretch_run size old new before after bodies told going is =
        let well = is.well going in
        let groups_alone : is.groups ++ is.faulted ≡ is.groups = ap (λ (l : List (List (Exchange ClientReply))). is.groups ++ l) well.0
        ∙ append-nil is.groups in
        record {
          entries = concat_groups is.groups;
          run = subst (λ (l : List (List (Exchange ClientReply))). Trace shared_machine before (concat_groups l) after) groups_alone is.served.run;
          asked = is.served.bodies_are ∙ ap (λ (l : List (List ℕ)). map body_of (concat_groups (is.groups ++ is.faulted)) ++ l) well.1
              ∙ append-nil (map body_of (concat_groups (is.groups ++ is.faulted)))
              ∙ ap (λ (l : List (List (Exchange ClientReply))). map body_of (concat_groups l)) groups_alone;
          answered = is.served.replies_are
              ∙ ap (λ (l : List (List (Exchange ClientReply))). map reply_of (concat_groups is.groups)
              ++ (map (λ (asked : Exchange ClientReply). shared_machine.faulted asked.body) (concat_groups l) ++ map shared_machine.failed is.others)) well.0
              ∙ ap (λ (l : List (List ℕ)). map reply_of (concat_groups is.groups) ++ map shared_machine.failed l) well.1
              ∙ append-nil (map reply_of (concat_groups is.groups));
        }

    stretches_run : (size : ℕ) (old new : Store D g) (before after : Shared) (stretches : List Stretch) → new.stopped ≡ false
        → ServesStretches size old new before stretches after
        → RunOf before after (all_bodies (map bodies_of stretches)) (told_in stretches)
    stretches_run size old new before after [] going is = record { entries = []; run = sym is.1; asked = refl; answered = told_nothing }
    stretches_run size old new before after (stretch ∷ stretches) going is =
        let there = goes_before size is.0 new is.1 after stretches is.3 going in
        let here = goes_before size old new before after (stretch ∷ stretches) is going in
        let one = stretch_run size old is.0 before is.1 stretch.bodies stretch.told there (is.2.served here) in
        let rest = stretches_run size is.0 new is.1 after stretches going is.3 in
        record {
          entries = one.entries ++ rest.entries;
          run = run_append shared_machine before one.entries is.1 rest.entries after one.run rest.run;
          asked = ap (λ (l : List (List ℕ)). l ++ all_bodies (map bodies_of stretches)) one.asked
              ∙ ap (λ (l : List (List ℕ)). map body_of one.entries ++ l) rest.asked ∙ sym (map-append body_of one.entries rest.entries);
          answered = told_first stretch stretches ∙ ap (λ (l : List ClientReply). l ++ told_in stretches) one.answered
              ∙ ap (λ (l : List ClientReply). map reply_of one.entries ++ l) rest.answered
              ∙ sym (map-append reply_of one.entries rest.entries);
        }

    pub one_over_store : OneClientOverStore g
    one_over_store client size old new before after asks bodies left frames going has own are answers =
        let all = stretches_run size old new before after answers.stretches going answers.serves in
        let bodies_are : map body_of all.entries ≡ map (λ (body : List ℕ). tagged_body client (Body body)) bodies ++ end_bodies client left = sym all.asked
        ∙ ap all_bodies (sym answers.are) ∙ bodies_cut client [] asks bodies left are in
        let two = in_two before after all.entries (map (λ (body : List ℕ). tagged_body client (Body body)) bodies)
        (end_bodies client left) all.run bodies_are in
        let told = told_all client before two.mid two.front bodies two.run two.first in
        let there = runs_keep one_request is_stub asks_nothing before two.mid two.front has two.run in
        let ended = told_end client left two.mid after two.back there (run_owns client before two.mid two.front bodies has own two.run two.first) two.rest
        two.second in
        let replies_are : map reply_of all.entries ≡ map (λ (reply : ReplyValue). Replies client reply) told.replies ++ end_replies client left =
        ap (λ (l : List (Exchange ClientReply)). map reply_of l) two.parts ∙ map-append reply_of two.front two.back
        ∙ ap (λ (l : List ClientReply). l ++ map reply_of two.back) told.are
        ∙ ap (λ (l : List ClientReply). map (λ (reply : ReplyValue). Replies client reply) told.replies ++ l) ended.are in
        record {
          replies = told.replies;
          mid = two.mid.state;
          run = run_of_one one_request is_stub asks_nothing client before two.mid two.front bodies told.replies has own two.run two.first told.are;
          are = answers.told ∙ ap all_frames (all.answered ∙ replies_are) ∙ frames_two client told.replies (end_replies client left)
              ∙ ap (λ (l : List (ℕ × List ℕ)). frames_to client told.replies ++ l) (end_frames_are client left);
          behind = ended.behind;
        }
