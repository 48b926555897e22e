-- A reply has its body's tag.
use Rattle.std.proofs.Common.{◌≡◌, ℕ, List, Option, Some, None, inl, inr, refl, ap, ◌∙◌}
use Rattle.oa_compat.specs.promise.Keeps.{first_lost}
use Rattle.oa_compat.specs.declared.lost.Incompatibility.{Incompatibility}
use Rattle.oa_record.specs.promise.Asks.{tag_at}
use Rattle.oa_record.specs.promise.Replies.{ReplyValue}
use Rattle.oa_turn.specs.promise.Replacing.{Replacement, replacement_reply}
use Rattle.oa_decision.specs.promise.States.{State}
use Rattle.oa_turn.specs.promise.Turns.{Ordinary, Turn}

ordinary_tag : (old new : State) (body : List ℕ) (reply : ReplyValue) → Ordinary old body reply new → reply.tag ≡ tag_at body
ordinary_tag old new body reply (inl s) = ap (λ (r : ReplyValue). r.tag) s.answers
ordinary_tag old new body reply (inr (inl s)) = ap (λ (r : ReplyValue). r.tag) s.answers
ordinary_tag old new body reply (inr (inr (inl s))) = ap (λ (r : ReplyValue). r.tag) s.answers
ordinary_tag old new body reply (inr (inr (inr s))) = ap (λ (r : ReplyValue). r.tag) s.answers

replacement_tag : (tag : ℕ) (lost : Option Incompatibility) → (replacement_reply tag lost).tag ≡ tag
replacement_tag tag None = refl
replacement_tag tag (Some lost) = refl

pub turn_tag : (old new : State) (body : List ℕ) (reply : ReplyValue) → Turn old body reply new → reply.tag ≡ tag_at body
turn_tag old new body reply (inl s) = ordinary_tag old new body reply s.turn
turn_tag old new body reply (inr s) = by s.turn
  where
    by : Replacement old body reply new → reply.tag ≡ tag_at body
    by (inl one) = ap (λ (r : ReplyValue). r.tag) one.answers ∙ replacement_tag (tag_at body) (first_lost one.library old.library)
    by (inr (inl one)) = ap (λ (r : ReplyValue). r.tag) one.answers
    by (inr (inr one)) = ap (λ (r : ReplyValue). r.tag) one.answers
