-- A turn that is told by this reply, and so a run that is told by these, leads to one state.
use Rattle.std.proofs.Common.{◌≡◌, ℕ, List, [], ◌∷◌, inl, inr, true≢false, sym, ap, ◌∙◌, subst, arith}
use Rattle.std.proofs.lemmas.Bool.Decides.{eqb_tells}
use Rattle.oa_record.specs.promise.Asks.{Asks}
use Rattle.oa_record.specs.promise.Replies.{ReplyValue}
use Rattle.oa_record.specs.declared.request.Request.{Request}
use Rattle.oa_idl.specs.promise.IsTree.{IsTree}
use Rattle.oa_idl.specs.promise.Trees.{TreeValue}
use Rattle.oa_compat.specs.promise.Keeps.{first_lost}
use Rattle.oa_turn.proofs.NoTrace.{quiet_turn}
use Rattle.oa_turn.specs.promise.Replacing.{Replaces, Replacement, after_replacement}
use Rattle.oa_decision.specs.promise.States.{State}
use Rattle.oa_turn.specs.promise.Steps.{state_after}
use Rattle.oa_turn.proofs.Texts.{one_asked}
use Rattle.oa_turn.specs.promise.Turns.{Ordinary, Run, Steps, Turn}

code_of : ReplyValue → ℕ
code_of reply = reply.code.0

-- S_OK is the answer of a step
is_step : (old new : State) (body : List ℕ) (reply : ReplyValue) → Ordinary old body reply new → reply.code.0 ≡ 0 → Steps old body reply new
unfolding code_of
is_step old new body reply (inl s) ok = s
is_step old new body reply (inr (inl s)) ok = let e : 2147944183 ≡ 0 = sym (ap code_of s.answers) ∙ ok in absurd (omega (arith, e))
is_step old new body reply (inr (inr (inl s))) ok = let e : 2147614728 ≡ 0 = sym (ap code_of s.answers) ∙ ok in absurd (omega (arith, e))
is_step old new body reply (inr (inr (inr s))) ok = let e : 2147942414 ≡ 0 = sym (ap code_of s.answers) ∙ ok in absurd (omega (arith, e))

is_replaced : (old new : State) (body : List ℕ) (reply : ReplyValue) → Replacement old body reply new → reply.code.0 ≡ 0 → Replaces old body reply new
unfolding code_of
is_replaced old new body reply (inl s) ok = s
is_replaced old new body reply (inr (inl s)) ok = let e : 2147944183 ≡ 0 = sym (ap code_of s.answers) ∙ ok in absurd (omega (arith, e))
is_replaced old new body reply (inr (inr s)) ok = let e : 2147942414 ≡ 0 = sym (ap code_of s.answers) ∙ ok in absurd (omega (arith, e))

module _ (one : (body : List ℕ) (p q : Request) → Asks body p → Asks body q → p ≡ q)
    (one_tree : (text : List ℕ) (s t : TreeValue) → IsTree text s → IsTree text t → s ≡ t) where
  one_step : (old a b : State) (body : List ℕ) (reply : ReplyValue) → Steps old body reply a → Steps old body reply b → a ≡ b
  one_step old a b body reply s t = s.leaves ∙ ap (λ (request : Request). state_after old request) (one body s.request t.request s.asked t.asked) ∙ sym t.leaves

  one_replaced : (old a b : State) (body : List ℕ) (reply : ReplyValue) → Replaces old body reply a → Replaces old body reply b → a ≡ b
  one_replaced old a b body reply s t =
      s.leaves ∙ ap (λ (l : TreeValue). after_replacement old l (first_lost l old.library)) (one_asked one_tree body s.library t.library s.asked t.asked)
      ∙ sym t.leaves

  -- what was answered S_OK
  one_done : (old a b : State) (body : List ℕ) (reply : ReplyValue) → Turn old body reply a → Turn old body reply b → reply.code.0 ≡ 0 → a ≡ b
  one_done old a b body reply (inl s) (inl t) ok = one_step old a b body reply (is_step old a body reply s.turn ok) (is_step old b body reply t.turn ok)
  one_done old a b body reply (inl s) (inr t) ok = absurd (true≢false (sym t.kind ∙ s.kind))
  one_done old a b body reply (inr s) (inl t) ok = absurd (true≢false (sym s.kind ∙ t.kind))
  one_done old a b body reply (inr s) (inr t) ok = one_replaced old a b body reply (is_replaced old a body reply s.turn ok)
      (is_replaced old b body reply t.turn ok)

  pub one_turn : (old a b : State) (body : List ℕ) (reply : ReplyValue) → Turn old body reply a → Turn old body reply b → a ≡ b
  one_turn old a b body reply first second = elim (eqb_tells reply.code.0 0) as (λ _. a ≡ b) [
    | inl is ↦ one_done old a b body reply first second is.1
    | inr is ↦ quiet_turn old a body reply first is.1 ∙ sym (quiet_turn old b body reply second is.1)
  ]

  pub one_run : (old a b : State) (bodies : List (List ℕ)) (replies : List ReplyValue) → Run old bodies replies a → Run old bodies replies b → a ≡ b
  one_run old a b [] [] first second = first ∙ sym second
  one_run old a b [] (y ∷ ys) first second = absurd first
  one_run old a b (x ∷ xs) [] first second = absurd first
  one_run old a b (x ∷ xs) (y ∷ ys) first second =
      one_run first.0 a b xs ys first.2 (subst (λ (s : State). Run s xs ys b) (one_turn old second.0 first.0 x y second.1 first.1) second.2)
