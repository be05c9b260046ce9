-- `chain::chain_of` meets its contract: what each call gives is what the next one asks, by the laws of `Close`.
use Rattle.eventset.specs.Sets.{bits_of}
use Rattle.chain.specs.Clash.{bound_of, bounds_of}
use Rattle.chain.specs.Marks.{Reached, Events}
use Rattle.chain.proofs.Close.{marking, start_low, way_back, closed_path, visiting, writing, found}
use Rattle.chain.proofs.chain_of.Goals as goal
use Rattle.chain.proofs.chain_of.Goals.{After-reach, After-visited-seen}

pub reach-requires : goal.reach-requires
reach-requires c =
    let e = c.none-marked.ensures in
    rw (c.from-a.ensures, c.from-b.ensures) (marking _ _ _ _ c.requires.0.1 e.unmarked e.blank)

-- the marks, in the list's terms
reached : (c : After-reach) →
    let β = bound_of c.args.last in
    Reached (bounds_of c.args.before.now) c.args.d.now.entries β.start β.end (bits_of c.reach.new.self.events) c.reach.new.self.notes
reached c = rw (c.from-a.ensures, c.from-b.ensures) at c.reach.ensures

pub note-requires : goal.note-requires
note-requires c = start_low _ _ _ _ c.requires.0.1

pub visited-seen-requires : goal.visited-seen-requires
visited-seen-requires c =
    let m = (goal.at.visited-seen-requires c).After-reach in
    rw (c.note.ensures.noted, c.from-a.ensures, c.from-b.ensures) (visiting _ _ _ _ c.requires.0.1 _ _ (reached m))

-- the events, in the list's terms
gone : (c : After-visited-seen) →
    let m = (goal.at.After-visited-seen c).After-reach in
    let w = way_back _ _ _ _ c.requires.0.1 _ _ (reached m) in
    Events (bound_of c.args.last).end w.steps (bits_of c.visited-seen.result)
gone c =
    let m = (goal.at.After-visited-seen c).After-reach in
    (rw (c.note.ensures.noted, c.from-a.ensures, c.from-b.ensures) at c.visited-seen.ensures).events _ (closed_path _ _ _ _ c.requires.0.1 _ _ (reached m))

pub write-requires : goal.write-requires
write-requires c =
    let at = goal.at.write-requires c in
    rw c.note.ensures.noted
    (writing _ _ _ _ c.requires.0.1 _ _ (reached at.After-reach) _ (gone at.After-visited-seen) _ _ c.lowest-from.ensures c.requires.1)

pub returns : goal.returns
returns c =
    let at = goal.at.returns c in
    rw c.write.ensures.steps
    (found _ _ _ _ c.requires.0.1 _ _ (reached at.After-reach) _ (gone at.After-visited-seen) _ _ _ c.lowest-from.ensures
    (rw c.note.ensures.noted at c.write.ensures.codes))
