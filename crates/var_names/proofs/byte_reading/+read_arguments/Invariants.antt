use Rattle.var_names.proofs.byte_reading.+read_arguments.Given as goal

-- proposed from what the function passes where it calls itself
abbrev pub decreases-read_arguments : goal.decreases-read_arguments
decreases-read_arguments l = l.count
