use Rattle.std.proofs.Common.{rules, refl, take}
use Rattle.oa_frame.proofs.Raws.{two_paced, known_cut, known_lost}
use Rattle.oa_frame.proofs.records.read_bytes.Goals as goal

pub returns-in-All-clause-paced : goal.returns-in-All-clause-paced
returns-in-All-clause-paced g c = λ start p. two_paced _ _ _ _ _ _ _ _ refl (search rules) p c.in-All.ensures.spends

pub returns-in-End-clause-paced : goal.returns-in-End-clause-paced
returns-in-End-clause-paced g c = λ start p. two_paced _ _ _ _ _ _ _ _ refl (search rules) p c.in-End.ensures.spends

pub returns-in-Fault-clause-paced : goal.returns-in-Fault-clause-paced
returns-in-Fault-clause-paced g c = λ start p. two_paced _ _ _ _ _ _ _ _ refl (search rules) p c.in-Fault.ensures.spends

pub returns-in-End-clause-input : goal.returns-in-End-clause-input
returns-in-End-clause-input g c = λ number bytes head says p. (
  tt,
  known_cut _ _ _ head (take c.in-End.field-0 c.fill_up.new.out) c.args.n says (search rules) (search rules)
      (search rules) p c.in-End.ensures.gets.1 c.in-End.ensures.gets.2,
)

pub returns-in-Fault-clause-input : goal.returns-in-Fault-clause-input
returns-in-Fault-clause-input g c = λ number bytes head says p.
    (tt, known_lost _ _ _ head c.in-Fault.ensures.gets.0 c.args.n says (search rules) (search rules) p c.in-Fault.ensures.gets.2)
