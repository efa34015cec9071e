-- The next line: `ContourLines` has what the two lists hold after it.
use Rattle.frame_text.specs.Reading.{coordinates}
use Rattle.frame_text.proofs.Laws.Parts.{part_over}
use Rattle.frame_text.proofs.ContourLines.{lines_step, all_points, all_counts, whole_size}
use Rattle.frame_text.proofs.reading.read_contours.Goals as goal

pub loop-line-preserved : goal.loop-line-preserved
loop-line-preserved c =
    let l = c.loop-line in
    let line = c.in-Some.line.now in
    lines_step l.invariant c.in-Some.ensures c.requires.for_points c.requires.for_counts
    (part_over l.size.coordinates l.points (coordinates line) c.read_coordinates.ensures)

pub returns-clause-value : goal.returns-clause-value
returns-clause-value c = whole_size c.loop-line.invariant c.in_default.ensures

pub returns-clause-points_after : goal.returns-clause-points_after
returns-clause-points_after c = all_points c.loop-line.invariant c.in_default.ensures

pub returns-clause-counts_after : goal.returns-clause-counts_after
returns-clause-counts_after c = all_counts c.loop-line.invariant c.in_default.ensures
