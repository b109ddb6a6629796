use Rattle.top_tests.proofs.scripts.answer_with.Given as goal

abbrev pub ghosts-run_uncounted : goal.ghosts-run_uncounted
ghosts-run_uncounted g a = record { name = a.blank.name; parts = a.blank.parts }
