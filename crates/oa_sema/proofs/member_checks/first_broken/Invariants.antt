use Rattle.std.proofs.Common.{◌≡◌, [], take, drop}
use Rattle.oa_sema.specs.promise.Breaches.{broken_by}
use Rattle.oa_sema.specs.MemberChecks.{alike, suits, breaks}
use Rattle.oa_sema.specs.promise.Repeats.{first_after}
use Rattle.oa_sema.proofs.Walks.{Keeps_it}
use Rattle.oa_sema.proofs.member_checks.first_broken.Given as goal

abbrev pub invariant-loop-place : goal.invariant-loop-place
invariant-loop-place l = record {
  kept : Keeps_it (alike l.fn.rule) (suits l.fn.rule) (take l.place l.all);
  left : first_after (broken_by (breaks l.fn.rule)) [] l.all ≡ first_after (broken_by (breaks l.fn.rule)) (take l.place l.all) (drop l.place l.all);
}
