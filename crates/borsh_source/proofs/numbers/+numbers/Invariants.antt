use Rattle.borsh_source.proofs.numbers.+numbers.Given as goal

abbrev pub decreases-value_of : goal.decreases-value_of
decreases-value_of l = l.depth

abbrev pub decreases-number_named : goal.decreases-number_named
decreases-number_named l = l.depth
