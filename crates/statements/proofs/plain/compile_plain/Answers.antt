use Rattle.statements.proofs.plain.compile_plain.Goals as goal

pub returns-in-Rem-clause-value : goal.returns-in-Rem-clause-value
returns-in-Rem-clause-value c h = rw c.in-Rem.is (c.compile_rem.ensures.value _ _ _ _)

pub returns-in-NoOp-clause-value : goal.returns-in-NoOp-clause-value
returns-in-NoOp-clause-value c h = rw c.in-NoOp.is (c.compile_no_op.ensures.value _ _ _ _ _)

pub returns-in-Run-clause-value : goal.returns-in-Run-clause-value
returns-in-Run-clause-value c h = rw c.in-Run.is (c.compile_run.ensures.value _ _ _)

pub returns-in-Data-clause-value : goal.returns-in-Data-clause-value
returns-in-Data-clause-value c h = rw c.in-Data.is (c.compile_data.ensures.value _ _ _)

pub returns-in-Def-clause-value : goal.returns-in-Def-clause-value
returns-in-Def-clause-value c h = rw c.in-Def.is (c.compile_def.ensures.value _)

pub returns-in-Dim-clause-value : goal.returns-in-Dim-clause-value
returns-in-Dim-clause-value c h = rw c.in-Dim.is (c.compile_dim.ensures.value _ _)

pub returns-in-Field-clause-value : goal.returns-in-Field-clause-value
returns-in-Field-clause-value c h = rw c.in-Field.is (c.compile_field.ensures.value _)

pub returns-in-For-clause-value : goal.returns-in-For-clause-value
returns-in-For-clause-value c h = rw c.in-For.is (c.compile_for.ensures.value _)

pub returns-in-GoSub-clause-value : goal.returns-in-GoSub-clause-value
returns-in-GoSub-clause-value c h = rw c.in-GoSub.is (c.compile_gosub.ensures.value _ _ _ _)

pub returns-in-GoTo-clause-value : goal.returns-in-GoTo-clause-value
returns-in-GoTo-clause-value c h = rw c.in-GoTo.is (c.compile_goto.ensures.value _ _ _ _)

pub returns-in-Input-clause-value : goal.returns-in-Input-clause-value
returns-in-Input-clause-value c h = rw c.in-Input.is (c.compile_input.ensures.value _)

pub returns-in-Let-clause-value : goal.returns-in-Let-clause-value
returns-in-Let-clause-value c h = rw c.in-Let.is (c.compile_let.ensures.value _)

pub returns-in-Load-clause-value : goal.returns-in-Load-clause-value
returns-in-Load-clause-value c h = rw c.in-Load.is (c.compile_load.ensures.value _)

pub returns-in-Locate-clause-value : goal.returns-in-Locate-clause-value
returns-in-Locate-clause-value c h = rw c.in-Locate.is (c.compile_locate.ensures.value _)

pub returns-in-Next-clause-value : goal.returns-in-Next-clause-value
returns-in-Next-clause-value c h = rw c.in-Next.is (c.compile_next.ensures.value _ _)

pub returns-in-On-clause-value : goal.returns-in-On-clause-value
returns-in-On-clause-value c h = rw c.in-On.is (c.compile_on.ensures.value _)

pub returns-in-Open-clause-value : goal.returns-in-Open-clause-value
returns-in-Open-clause-value c h = rw c.in-Open.is (c.compile_open.ensures.value _)

pub returns-in-Print-clause-value : goal.returns-in-Print-clause-value
returns-in-Print-clause-value c h = rw c.in-Print.is (c.compile_print.ensures.value _)

pub returns-in-Read-clause-value : goal.returns-in-Read-clause-value
returns-in-Read-clause-value c h = rw c.in-Read.is (c.compile_read.ensures.value _)

pub returns-in-Restore-clause-value : goal.returns-in-Restore-clause-value
returns-in-Restore-clause-value c h = rw c.in-Restore.is (c.compile_restore.ensures.value _ _ _ _)

pub returns-in-Swap-clause-value : goal.returns-in-Swap-clause-value
returns-in-Swap-clause-value c h = rw c.in-Swap.is (c.compile_swap.ensures.value _)

pub returns-in-System-clause-value : goal.returns-in-System-clause-value
returns-in-System-clause-value c h = rw c.in-System.is (c.compile_system.ensures.value _ _ _ _ _)

pub returns-in-While-clause-value : goal.returns-in-While-clause-value
returns-in-While-clause-value c h = rw c.in-While.is (c.compile_while.ensures.value _)

pub returns-in-Write-clause-value : goal.returns-in-Write-clause-value
returns-in-Write-clause-value c h = rw c.in-Write.is (c.compile_write.ensures.value _)
