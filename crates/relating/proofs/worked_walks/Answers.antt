use Rattle.std.proofs.Common.{refl}
use Rattle.relating.proofs.worked_walks.Goals as goal

pub returns : goal.returns
returns c = record {
  r1_setup_pick = refl;
  r2p_setup_pick = refl;
  r4_pick_setup = refl;
  r2_setup_rest = refl;
  r3p_setup_rest = refl;
  r4_setup_setup = refl;
}
