use Rattle.ss_cmd.proofs.Logs.{reads}
use Rattle.ss_cmd.proofs.words.matches_of.Goals as goal

pub returns : goal.returns
returns c =
    reads c.args.command _ _ c.try_get_matches_from.result c.in_ok-parser.ensures c.try_get_matches_from.ensures.kinds c.try_get_matches_from.ensures.matches
