use Rattle.table.proofs.Inserting.{not_found, gap_at, inserted, inserted_rises}
use Rattle.table.proofs.insert.Goals as goal

pub unwrap_err-at-requires : goal.unwrap_err-at-requires
unwrap_err-at-requires g c =
    not_found g.T.Key.Ord.cmp g.met.T.Key.Ord.total g.T.Keyed.key_of c.args.item _ c.requires.fresh _ c.key.ensures _ c.search.ensures

pub returns-clause-list : goal.returns-clause-list
returns-clause-list g c =
    let total = g.met.T.Key.Ord.total in
    let gap = gap_at g.T.Key.Ord.cmp total g.T.Keyed.key_of c.args.item _ _ c.key.ensures _ c.search.ensures _ c.unwrap_err-at.ensures in
    inserted g.T.Key.Ord.cmp total g.T.Keyed.key_of c.args.table.now c.args.item c.requires.room c.requires.rises _ gap _ c.rotate_right.ensures.after

pub returns-clause-rises : goal.returns-clause-rises
returns-clause-rises g c =
    let total = g.met.T.Key.Ord.total in
    let gap = gap_at g.T.Key.Ord.cmp total g.T.Keyed.key_of c.args.item _ _ c.key.ensures _ c.search.ensures _ c.unwrap_err-at.ensures in
    inserted_rises g.T.Key.Ord.cmp total g.T.Keyed.key_of c.args.table.now c.args.item c.requires.room c.requires.rises _ gap _ c.rotate_right.ensures.after
