-- The worked trace, by computation.
use Rattle.std.proofs.Common.{refl}
use Rattle.causality.specs.Worked.{WorkedTrace}

pub worked_trace : WorkedTrace
worked_trace = record {
  forward_3_2 = refl;
  forward_2_2 = refl;
  reverse_2_1 = refl;
  reverse_1_2 = refl;
  event_1_3 = refl;
  event_3_4 = refl;
  concurrent = (refl, refl);
  same_event = refl;
  first_reaches = refl;
  joint_reaches = refl;
  columns = refl;
}
