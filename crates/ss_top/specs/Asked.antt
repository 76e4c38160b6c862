-- The run that a plan's options ask for.
use Rattle.std.specs.Prelude.{ℕ, max, Some, None, if◌then◌else◌}
use Rattle.std.specs.List.{list_any}
use Rattle.ss_graph.specs.declared.graph.Graph.{Graph}
use Rattle.ss_cmd.specs.declared.RunOptions.{RunOptions}
use Rattle.ss_part.specs.Assigned.{assigned}
use Rattle.ss_library.specs.Kinds.{any_kind}
use Rattle.ss_library.specs.Meaning.{any_opening}
use Rattle.ss_run.specs.declared.Origin.{Origin}
use Rattle.ss_run.specs.declared.RunSpec.{RunSpec}
use Rattle.ss_course.specs.Course.{Course, in_parts}
use Rattle.ss_top.specs.Judge.{stop_by}

-- the run of a graph from what it begins with: a stop time before the beginning counts as the beginning, and the primaries are
-- asked where there are any
abbrev pub course_of : Graph → Origin → RunOptions → Course
course_of g from o = record {
  graph = g;
  from = from;
  cuts = record {
    stop = max (any_opening g from).time (stop_by o.stop_at g.options.stop_at);
    origin = (any_opening g from).time;
    exit = if list_any any_kind.primary (any_opening g from).state.components then Some g.options.exit_period else None;
    save_at = o.checkpoint_at;
    save_every = o.checkpoint_period;
  };
}

-- the same in so many parts, by the partitioner that is asked for
abbrev pub run_of : Graph → Origin → RunOptions → ℕ → RunSpec
run_of g from o parts = in_parts (course_of g from o) parts (assigned g parts o.spread.how)
