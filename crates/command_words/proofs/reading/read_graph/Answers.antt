use Rattle.command_words.proofs.reading.read_graph.Goals as goal

pub returns-clause-asked : goal.returns-clause-asked
returns-clause-asked c = record { trace = c.in_ok-read_trace.ensures.asked; port = c.in_ok-read_short.ensures.asked }
