use Rattle.quick_node.proofs.after_crash.a_second_run_goes_on.Goals as goal

pub returns : goal.returns
returns c =
    λ asked again_asked history before next after last status later life whole again.
    record { first = life.goes_on; second = again.goes_on; once = again.once; left = again.left }
