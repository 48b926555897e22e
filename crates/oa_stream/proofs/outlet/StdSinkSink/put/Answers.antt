use Rattle.std.proofs.Common.{rules, refl, arith}
use Rattle.oa_stream.proofs.Stretches.{stays_broken, appends_more, appends_kept}
use Rattle.oa_stream.proofs.outlet.StdSinkSink.put.Goals.{in-Bytes, in-Again+else-self-ge-MOST_TRIES}
use Rattle.oa_stream.proofs.outlet.StdSinkSink.put.Goals as goal

pub returns-in-Fault-clause-puts : goal.returns-in-Fault-clause-puts
returns-in-Fault-clause-puts g c = stays_broken _ _ c.args.bytes.now c.calls.at refl refl
    (appends_kept _ _ _ _ c.calls.invariant.written c.in-Fault.ensures.took.0) c.in-Fault.ensures.took.1

pub returns-then-self-ge-MOST_TRIES-clause-puts : goal.returns-then-self-ge-MOST_TRIES-clause-puts
returns-then-self-ge-MOST_TRIES-clause-puts g c = stays_broken _ _ c.args.bytes.now c.calls.at refl refl
    (appends_kept _ _ _ _ c.calls.invariant.written c.in-Again.ensures.took.0) refl

pub calls-preserved : goal.calls-preserved
calls-preserved g c =
    elim c.match-take.branch [
      | in-Bytes w ↦ record {
        within = rw w.at-is (search rules);
        unbroken = w.in-Bytes.ensures.took.3;
        few = rw w.in-Bytes.ensures.tried c.calls.invariant.few;
        paced = rw (w.at-is, w.in-Bytes.ensures.tried) (omega (arith, c.calls.invariant.paced, w.in-Bytes.ensures.took.0));
        written = rw w.at-is (appends_more _ _ _ c.args.bytes.now c.calls.at w.in-Bytes.count c.calls.invariant.written w.in-Bytes.ensures.took.2);
      }
      | in-Again+else-self-ge-MOST_TRIES w ↦ record {
        within = rw w.at-is c.calls.invariant.within;
        unbroken = w.in-Again.ensures.took.1;
        few = search rules;
        paced = rw (w.at-is, w.in-Again.ensures.tried) (omega (arith, c.calls.invariant.paced));
        written = rw w.at-is (appends_kept _ _ _ _ c.calls.invariant.written w.in-Again.ensures.took.0);
      }
    ]

pub returns-clause-puts : goal.returns-clause-puts
returns-clause-puts g c = stays_broken _ _ c.args.bytes.now c.calls.at refl refl c.calls.invariant.written refl
