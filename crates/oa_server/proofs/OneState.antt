-- A first part of a run leads to where the rest begins.
use Rattle.std.proofs.Common.{◌≡◌, ℕ, List, [], ◌∷◌, ◌++◌, subst}
use Rattle.oa_group_commit.specs.promise.Groups.{Trace, Exchange}
use Rattle.oa_idl.specs.promise.IsTree.{IsTree}
use Rattle.oa_idl.specs.promise.Trees.{TreeValue}
use Rattle.oa_record.specs.promise.Asks.{Asks}
use Rattle.oa_record.specs.promise.Replies.{ReplyValue}
use Rattle.oa_record.specs.declared.request.Request.{Request}
use Rattle.oa_turn.proofs.OneState.{one_turn}
use Rattle.oa_decision.specs.promise.States.{State}
use Rattle.oa_server.specs.promise.ServerMachine.{server_machine}

module _ (one : (body : List ℕ) (p q : Request) → Asks body p → Asks body q → p ≡ q)
    (one_tree : (text : List ℕ) (s t : TreeValue) → IsTree text s → IsTree text t → s ≡ t) where
  pub run_rest : (old mid new : State) (front back : List (Exchange ReplyValue)) → Trace server_machine old (front ++ back) new
      → Trace server_machine old front mid → Trace server_machine mid back new
  run_rest old mid new [] back whole first = subst (λ (s : State). Trace server_machine s back new) first whole
  run_rest old mid new (e ∷ front) back whole first =
      run_rest whole.0 mid new front back whole.2
      (subst (λ (s : State). Trace server_machine s front mid) (one_turn one one_tree old first.0 whole.0 e.body e.reply first.1.turn whole.1.turn) first.2)
