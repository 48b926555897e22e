-- Sessions over a store, cut behind any of their turns.
use Rattle.std.proofs.Common.{◌≡◌, ℕ, List, [], ◌∷◌, ◌++◌, refl, ap, ◌∙◌, subst}
use Rattle.oa_disk.specs.declared.disk.Disk.{Ghosts}
use Rattle.oa_turn.specs.promise.ClientLocks.{ClientLock}
use Rattle.oa_server.specs.promise.SharedSessions.{asked_written}
use Rattle.oa_server.specs.promise.SharedMachine.{shared}
use Rattle.oa_mux.specs.promise.Answering.{SharedTurn}
use Rattle.oa_mux.specs.promise.Marks.{Tagged}
use Rattle.oa_mux.specs.promise.Readers.{Brought}
use Rattle.oa_mux.specs.promise.Talking.{AllTurned}
use Rattle.oa_decision.specs.promise.States.{State}
use Rattle.oa_history.specs.promise.Framed.{turns_told}
use Rattle.oa_history.proofs.Framed.{turns_made}
use Rattle.oa_linearizable.specs.Sessions.{SessionsRunUntilCrash}

-- some first turns, and those behind them
record Cut {S : Type 0} (turn : SharedTurn S) (old : S) (front back : List (Tagged Brought)) (tolds : List (List (ℕ × List ℕ))) (new : S) : Type 0 where
  first : List (List (ℕ × List ℕ))
  second : List (List (ℕ × List ℕ))
  are : tolds ≡ first ++ second
  mid : S
  run : AllTurned turn old front first mid
  rest : AllTurned turn mid back second new

cut_turns : {S : Type 0} (turn : SharedTurn S) (old : S) (front back : List (Tagged Brought)) (tolds : List (List (ℕ × List ℕ))) (new : S)
    → AllTurned turn old (front ++ back) tolds new → Cut turn old front back tolds new
cut_turns turn old [] back tolds new run = record { first = []; second = tolds; are = refl; mid = old; run = refl; rest = run }
cut_turns turn old (ask ∷ front) back [] new run = absurd run
cut_turns turn old (ask ∷ front) back (told ∷ tolds) new run =
    let rest = cut_turns turn run.0 front back tolds new run.2 in
    record {
      first = told ∷ rest.first;
      second = rest.second;
      are = ap (λ (l : List (List (ℕ × List ℕ))). told ∷ l) rest.are;
      mid = rest.mid;
      run = (run.0, run.1, rest.run);
      rest = rest.rest;
    }

pub sessions_run : {D : Type 0} {g : Ghosts D} → SessionsRunUntilCrash g
sessions_run {D} {g} input input' out out' size old new why session start store served next rest is sits asked one =
    let begun = session.begun in
    let run = subst (λ (l : List (Tagged Brought)). AllTurned asked_written begun l (turns_told session.serves) session.left) asked
    (turns_made session.serves) in
    let first = cut_turns asked_written begun served (next ++ rest) (turns_told session.serves) session.left run in
    let second = cut_turns asked_written first.mid next rest first.second session.left first.rest in
    let same : shared begun.host begun.desk.owners ≡ shared old.host [] =
    ap (λ (s : State). shared s begun.desk.owners) session.host ∙ ap (λ (l : List ClientLock). shared old.host l) session.owners in (
      record { tolds = first.first; mid = first.mid; run = first.run; unheard = second.first; last = second.mid; turn = second.run },
      (second.second, first.are ∙ ap (λ (l : List (List (ℕ × List ℕ))). first.first ++ l) second.are),
      λ has_failed moment left others well behind may. record {
        store = store;
        first = begun;
        over = session.storage ∙ is;
        sits = sits;
        serves = same;
        no_replies = session.no_replies;
        no_events = session.no_events;
        tolds = first.first;
        mid = first.mid;
        run = first.run;
        frames_are = refl;
        well = well;
        next = next;
        others = others;
        one = one;
        waiting_are = refl;
        unheard = second.first;
        last = second.mid;
        turn = second.run;
        moment = moment;
        behind = behind;
        may_be_left = may;
      },
    )
