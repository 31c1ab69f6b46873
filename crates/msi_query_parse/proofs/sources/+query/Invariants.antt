use Rattle.msi_query_parse.proofs.sources.+query.Given as goal

abbrev pub decreases-query : goal.decreases-query
decreases-query l = l.depth
