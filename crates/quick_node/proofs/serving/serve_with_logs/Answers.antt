use Rattle.std.proofs.Common.{◌≡◌, ◌<◌, ◌≤◌, ℕ, List, Some, None, length, map, sum, refl, sym, ap, ◌∙◌, subst, inl, inr, arith}
use Rattle.std.specs.Prelude.{min}
use Rattle.std.specs.String.{string_bytes}
use Rattle.command_words.specs.declared.command.Command.TheVariants as commands
use Rattle.command_words.specs.Words.{IsWithin}
use Rattle.command_words.specs.declared.run.RunOptions.{RunOptions}
use Rattle.command_words.proofs.Bounds.{run_is_within}
use Rattle.command_words.proofs.Naming.{names_alone}
use Rattle.index_world.specs.Core.{last_count}
use Rattle.node_run.specs.Logs.{logs_in}
use Rattle.thread_run.specs.declared.run_end.RunOptions.{RunOptions as Options}
use Rattle.quick_node.specs.Causes.{faults_of}
use Rattle.quick_node.specs.Opening.{outside_of, EndsBy, ReportFinds}
use Rattle.quick_node.specs.Reporting.{Reports}
use Rattle.quick_node.specs.Runs.{AsksRun, IsRun, options_of}
use Rattle.quick_node.specs.declared.reporting.Report.TheVariants as kinds
use Rattle.quick_node.proofs.Caused.{other_causes}
use Rattle.quick_node.proofs.Finding.{unread_opening}
use Rattle.quick_node.proofs.Unread.{is_short, short_status, wrote_none, landed_itself, unread_drives, unread_runs, unread_creates, unread_reports}
use Rattle.quick_node.proofs.Words.{named_so, named_run, asked_so, unnamed, same_of, same_run, create_or_run, drive_or_run, run_or_create, run_or_drive, splits_or_run, describe_or_run, create_or_drive, drive_or_create, splits_or_drive, splits_or_create, describe_or_drive, describe_or_create}
use Rattle.quick_node.proofs.serving.serve_with_logs.Goals as goal

-- ---- the words found no memory

pub returns-in_default : goal.returns-in_default
returns-in_default g c = record {
  drives = λ history before drive shows enters.
      unread_drives g.S.ObjectStore.told g.S.ObjectStore.fault_count g.L.SourceLog.told g.L.SourceLog.fault_count g.L.SourceLog.since g.R.Source.left g.R.Source.fault_count g.W.Sink.content g.W.Sink.fault_count
      history before c.args.store c.ended.result.0.store c.ended.result.0.store_faults c.ended.result.0.log_faults c.ended.result.0.status c.args.logs.items (logs_in c.ended.result.1) c.args.input.now c.args.output.now c.ended.new.output
      shows enters c.ended.ensures.store c.ended.ensures.store_faults c.ended.ensures.logs c.ended.ensures.later c.ended.ensures.log_sum c.ended.ensures.counted c.ended.ensures.writes;
  runs = λ options history before run within shows enters.
      unread_runs g.S.ObjectStore.told g.S.ObjectStore.fault_count g.L.SourceLog.told g.L.SourceLog.fault_count g.L.SourceLog.since g.R.Source.left g.R.Source.fault_count g.W.Sink.content g.W.Sink.fault_count
      history before c.args.store c.ended.result.0.store c.ended.result.0.store_faults c.ended.result.0.log_faults c.ended.result.0.status c.args.logs.items (logs_in c.ended.result.1) c.args.input.now c.args.output.now c.ended.new.output
      shows enters c.ended.ensures.store c.ended.ensures.store_faults c.ended.ensures.logs c.ended.ensures.later c.ended.ensures.log_sum c.ended.ensures.counted c.ended.ensures.writes options;
  creates = λ history before create shows enters.
      unread_creates g.S.ObjectStore.told g.S.ObjectStore.fault_count g.L.SourceLog.told g.L.SourceLog.fault_count g.L.SourceLog.since g.R.Source.left g.R.Source.fault_count g.W.Sink.content g.W.Sink.fault_count
      history before c.args.store c.ended.result.0.store c.ended.result.0.store_faults c.ended.result.0.log_faults c.ended.result.0.status c.args.logs.items (logs_in c.ended.result.1) c.args.input.now c.args.output.now c.ended.new.output
      shows enters c.ended.ensures.store c.ended.ensures.store_faults c.ended.ensures.logs c.ended.ensures.later c.ended.ensures.log_sum c.ended.ensures.counted c.ended.ensures.writes (g.C.Clock.told c.args.clock);
  reports = λ asked history before asks shows enters.
      unread_reports g.S.ObjectStore.told g.S.ObjectStore.fault_count g.L.SourceLog.told g.L.SourceLog.fault_count g.L.SourceLog.since g.R.Source.left g.R.Source.fault_count g.W.Sink.content g.W.Sink.fault_count
      history before c.args.store c.ended.result.0.store c.ended.result.0.store_faults c.ended.result.0.log_faults c.ended.result.0.status c.args.logs.items (logs_in c.ended.result.1) c.args.input.now c.args.output.now c.ended.new.output
      shows enters c.ended.ensures.store c.ended.ensures.store_faults c.ended.ensures.logs c.ended.ensures.later c.ended.ensures.log_sum c.ended.ensures.counted c.ended.ensures.writes asked;
  only_reads = λ asked asks. record { kept = landed_itself _ _ (ap g.S.ObjectStore.told c.ended.ensures.store); left_same = refl; read_same = refl };
  refuses = λ other run none splits describe. (
    record {
      kept = ap g.S.ObjectStore.told c.ended.ensures.store;
      store_count = ap g.S.ObjectStore.fault_count c.ended.ensures.store;
      reported = c.ended.ensures.store_faults;
      log_sum = c.ended.ensures.log_sum ∙ ap (λ ls. min (sum (map g.L.SourceLog.fault_count ls)) last_count) c.ended.ensures.logs;
      left_same = refl;
      read_same = refl;
    },
    wrote_none _ _ _ _ _ c.ended.ensures.writes,
  );
  opening =
      unread_opening _ _ (g.C.Clock.told c.args.clock) (outside_of (g.S.ObjectStore.told c.args.store) (g.S.ObjectStore.fault_count c.args.store) (g.R.Source.left c.args.input.now) (g.R.Source.fault_count c.args.input.now) (g.W.Sink.content c.args.output.now) (g.W.Sink.fault_count c.args.output.now))
      (outside_of (g.S.ObjectStore.told c.ended.result.0.store) (g.S.ObjectStore.fault_count c.ended.result.0.store) (g.R.Source.left c.args.input.now) (g.R.Source.fault_count c.args.input.now) (g.W.Sink.content c.ended.new.output) (g.W.Sink.fault_count c.ended.new.output))
      c.ended.result.0.status (ap g.S.ObjectStore.told c.ended.ensures.store, ap g.S.ObjectStore.fault_count c.ended.ensures.store) (refl, refl) c.ended.ensures.status;
  causes =
      other_causes (faults_of (g.S.ObjectStore.fault_count c.args.store) (g.R.Source.fault_count c.args.input.now) (g.W.Sink.fault_count c.args.output.now)) (faults_of (g.S.ObjectStore.fault_count c.ended.result.0.store) (g.R.Source.fault_count c.args.input.now) (g.W.Sink.fault_count c.ended.new.output))
      c.ended.result.0.status (omega arith) c.ended.ensures.counted (inr (inl (is_short _ c.ended.ensures.status)));
  statuses = short_status _ _ _ (is_short _ c.ended.ensures.status);
  counts = c.ended.ensures.store_faults ∙ sym (ap g.S.ObjectStore.fault_count c.ended.ensures.store);
  log_sum = c.ended.ensures.log_sum;
  unread = λ other run. c.ended.ensures.logs;
}

-- ---- the words name no command

pub returns-in_default-named : goal.returns-in_default-named
returns-in_default-named g c = record {
  drives = λ history before drive shows enters. absurd (unnamed (named_so _ _ None commands.Drive c.in-Ok.ensures c.in_default-named.is drive));
  runs = λ options history before run within shows enters. absurd (unnamed (named_run (map string_bytes c.args.words.now) _ None options c.in-Ok.ensures c.in_default-named.is run));
  creates = λ history before create shows enters. absurd (unnamed (named_so _ _ None commands.Create c.in-Ok.ensures c.in_default-named.is create));
  reports = λ asked history before asks shows enters. absurd (unnamed (asked_so _ _ None asked c.in-Ok.ensures c.in_default-named.is asks));
  only_reads = λ asked asks. absurd (unnamed (asked_so _ _ None asked c.in-Ok.ensures c.in_default-named.is asks));
  refuses = λ other run none splits describe. (
    record {
      kept = ap g.S.ObjectStore.told c.refuse.ensures.store;
      store_count = ap g.S.ObjectStore.fault_count c.refuse.ensures.store;
      reported = c.refuse.ensures.store_faults;
      log_sum = c.refuse.ensures.log_sum ∙ ap (λ ls. min (sum (map g.L.SourceLog.fault_count ls)) last_count) c.refuse.ensures.logs;
      left_same = refl;
      read_same = refl;
    },
    c.refuse.ensures.writes,
  );
  opening = record {
    drive = λ drive. absurd (unnamed (named_so _ _ None commands.Drive c.in-Ok.ensures c.in_default-named.is drive));
    run = λ run. absurd (unnamed (named_run (map string_bytes c.args.words.now) _ None run.0 c.in-Ok.ensures c.in_default-named.is run.1));
    create = λ create. absurd (unnamed (named_so _ _ None commands.Create c.in-Ok.ensures c.in_default-named.is create));
    report = λ asked asks. absurd (unnamed (asked_so _ _ None asked c.in-Ok.ensures c.in_default-named.is asks));
  };
  causes =
      other_causes (faults_of (g.S.ObjectStore.fault_count c.args.store) (g.R.Source.fault_count c.args.input.now) (g.W.Sink.fault_count c.args.output.now)) (faults_of (g.S.ObjectStore.fault_count c.refuse.result.0.store) (g.R.Source.fault_count c.args.input.now) (g.W.Sink.fault_count c.refuse.new.output))
      c.refuse.result.0.status (omega arith) c.refuse.ensures.counted c.refuse.ensures.status;
  statuses = record {
    drive = λ drive. absurd (unnamed (named_so _ _ None commands.Drive c.in-Ok.ensures c.in_default-named.is drive));
    run = λ run. absurd (unnamed (named_run (map string_bytes c.args.words.now) _ None run.0 c.in-Ok.ensures c.in_default-named.is run.1));
    create = λ create. absurd (unnamed (named_so _ _ None commands.Create c.in-Ok.ensures c.in_default-named.is create));
    report = λ asked asks. absurd (unnamed (asked_so _ _ None asked c.in-Ok.ensures c.in_default-named.is asks));
    other = λ other run none splits describe. c.refuse.ensures.status;
  };
  counts = c.refuse.ensures.store_faults ∙ sym (ap g.S.ObjectStore.fault_count c.refuse.ensures.store);
  log_sum = c.refuse.ensures.log_sum;
  unread = λ other run. c.refuse.ensures.logs;
}

-- ---- the command is `create`

pub returns-in-Create : goal.returns-in-Create
returns-in-Create g c = record {
  drives = λ history before drive shows enters. absurd (create_or_drive (named_so _ _ (Some commands.Create) commands.Drive c.in-Ok.ensures (c.in-Some.is ∙ ap Some c.in-Create.is) drive));
  runs = λ options history before run within shows enters. absurd (create_or_run (named_run (map string_bytes c.args.words.now) _ (Some commands.Create) options c.in-Ok.ensures (c.in-Some.is ∙ ap Some c.in-Create.is) run));
  creates = λ history before create shows enters. c.create.ensures.creates history before shows enters;
  reports = λ asked history before asks shows enters. absurd (unnamed (asked_so _ _ (Some commands.Create) asked c.in-Ok.ensures (c.in-Some.is ∙ ap Some c.in-Create.is) asks));
  only_reads = λ asked asks. absurd (unnamed (asked_so _ _ (Some commands.Create) asked c.in-Ok.ensures (c.in-Some.is ∙ ap Some c.in-Create.is) asks));
  refuses = λ other run none splits describe. absurd (none (names_alone _ commands.Create (sym c.in-Ok.ensures ∙ c.in-Some.is ∙ ap Some c.in-Create.is)));
  opening = record {
    drive = λ drive. absurd (create_or_drive (named_so _ _ (Some commands.Create) commands.Drive c.in-Ok.ensures (c.in-Some.is ∙ ap Some c.in-Create.is) drive));
    run = λ run. absurd (create_or_run (named_run (map string_bytes c.args.words.now) _ (Some commands.Create) run.0 c.in-Ok.ensures (c.in-Some.is ∙ ap Some c.in-Create.is) run.1));
    create = λ create. c.create.ensures.opening;
    report = λ asked asks. absurd (unnamed (asked_so _ _ (Some commands.Create) asked c.in-Ok.ensures (c.in-Some.is ∙ ap Some c.in-Create.is) asks));
  };
  causes = c.create.ensures.causes.causes;
  statuses = record {
    drive = λ drive. absurd (create_or_drive (named_so _ _ (Some commands.Create) commands.Drive c.in-Ok.ensures (c.in-Some.is ∙ ap Some c.in-Create.is) drive));
    run = λ run. absurd (create_or_run (named_run (map string_bytes c.args.words.now) _ (Some commands.Create) run.0 c.in-Ok.ensures (c.in-Some.is ∙ ap Some c.in-Create.is) run.1));
    create = λ create. c.create.ensures.causes.known;
    report = λ asked asks. absurd (unnamed (asked_so _ _ (Some commands.Create) asked c.in-Ok.ensures (c.in-Some.is ∙ ap Some c.in-Create.is) asks));
    other = λ other run none splits describe. absurd (none (names_alone _ commands.Create (sym c.in-Ok.ensures ∙ c.in-Some.is ∙ ap Some c.in-Create.is)));
  };
  counts = c.create.ensures.store_faults;
  log_sum = c.create.ensures.log_sum;
  unread = λ other run. c.create.ensures.unread;
}

-- ---- the command is `drive`

pub returns-in-Drive : goal.returns-in-Drive
returns-in-Drive g c = record {
  drives = λ history before drive shows enters. c.drive.ensures.drives history before shows enters;
  runs = λ options history before run within shows enters. absurd (drive_or_run (named_run (map string_bytes c.args.words.now) _ (Some commands.Drive) options c.in-Ok.ensures (c.in-Some.is ∙ ap Some c.in-Drive.is) run));
  creates = λ history before create shows enters. absurd (drive_or_create (named_so _ _ (Some commands.Drive) commands.Create c.in-Ok.ensures (c.in-Some.is ∙ ap Some c.in-Drive.is) create));
  reports = λ asked history before asks shows enters. absurd (unnamed (asked_so _ _ (Some commands.Drive) asked c.in-Ok.ensures (c.in-Some.is ∙ ap Some c.in-Drive.is) asks));
  only_reads = λ asked asks. absurd (unnamed (asked_so _ _ (Some commands.Drive) asked c.in-Ok.ensures (c.in-Some.is ∙ ap Some c.in-Drive.is) asks));
  refuses = λ other run none splits describe. absurd (other (names_alone _ commands.Drive (sym c.in-Ok.ensures ∙ c.in-Some.is ∙ ap Some c.in-Drive.is)));
  opening = record {
    drive = λ drive. c.drive.ensures.opening;
    run = λ run. absurd (drive_or_run (named_run (map string_bytes c.args.words.now) _ (Some commands.Drive) run.0 c.in-Ok.ensures (c.in-Some.is ∙ ap Some c.in-Drive.is) run.1));
    create = λ create. absurd (drive_or_create (named_so _ _ (Some commands.Drive) commands.Create c.in-Ok.ensures (c.in-Some.is ∙ ap Some c.in-Drive.is) create));
    report = λ asked asks. absurd (unnamed (asked_so _ _ (Some commands.Drive) asked c.in-Ok.ensures (c.in-Some.is ∙ ap Some c.in-Drive.is) asks));
  };
  causes = c.drive.ensures.causes.causes;
  statuses = record {
    drive = λ drive. c.drive.ensures.causes.known;
    run = λ run. absurd (drive_or_run (named_run (map string_bytes c.args.words.now) _ (Some commands.Drive) run.0 c.in-Ok.ensures (c.in-Some.is ∙ ap Some c.in-Drive.is) run.1));
    create = λ create. absurd (drive_or_create (named_so _ _ (Some commands.Drive) commands.Create c.in-Ok.ensures (c.in-Some.is ∙ ap Some c.in-Drive.is) create));
    report = λ asked asks. absurd (unnamed (asked_so _ _ (Some commands.Drive) asked c.in-Ok.ensures (c.in-Some.is ∙ ap Some c.in-Drive.is) asks));
    other = λ other run none splits describe. absurd (other (names_alone _ commands.Drive (sym c.in-Ok.ensures ∙ c.in-Some.is ∙ ap Some c.in-Drive.is)));
  };
  counts = c.drive.ensures.store_faults;
  log_sum = c.drive.ensures.log_sum;
  unread = λ other run. absurd (other (names_alone _ commands.Drive (sym c.in-Ok.ensures ∙ c.in-Some.is ∙ ap Some c.in-Drive.is)));
}

-- ---- the command is `splits`

pub returns-in-Splits : goal.returns-in-Splits
returns-in-Splits g c = record {
  drives = λ history before drive shows enters. absurd (splits_or_drive (named_so _ _ (Some commands.Splits) commands.Drive c.in-Ok.ensures (c.in-Some.is ∙ ap Some c.in-Splits.is) drive));
  runs = λ options history before run within shows enters. absurd (splits_or_run (named_run (map string_bytes c.args.words.now) _ (Some commands.Splits) options c.in-Ok.ensures (c.in-Some.is ∙ ap Some c.in-Splits.is) run));
  creates = λ history before create shows enters. absurd (splits_or_create (named_so _ _ (Some commands.Splits) commands.Create c.in-Ok.ensures (c.in-Some.is ∙ ap Some c.in-Splits.is) create));
  reports = λ asked history before asks shows enters.
      let is : kinds.Splits ≡ asked = same_of (asked_so _ _ (Some commands.Splits) asked c.in-Ok.ensures (c.in-Some.is ∙ ap Some c.in-Splits.is) asks) in
      let done = c.report.ensures.reports history before shows enters in
      (done.0, done.1, subst (λ a. Reports a history before done.0 c.report.result.0.status) is done.2, done.3);
  only_reads = λ asked asks. record { kept = c.report.ensures.landed; left_same = refl; read_same = refl };
  refuses = λ other run none splits describe. absurd (splits (names_alone _ commands.Splits (sym c.in-Ok.ensures ∙ c.in-Some.is ∙ ap Some c.in-Splits.is)));
  opening = record {
    drive = λ drive. absurd (splits_or_drive (named_so _ _ (Some commands.Splits) commands.Drive c.in-Ok.ensures (c.in-Some.is ∙ ap Some c.in-Splits.is) drive));
    run = λ run. absurd (splits_or_run (named_run (map string_bytes c.args.words.now) _ (Some commands.Splits) run.0 c.in-Ok.ensures (c.in-Some.is ∙ ap Some c.in-Splits.is) run.1));
    create = λ create. absurd (splits_or_create (named_so _ _ (Some commands.Splits) commands.Create c.in-Ok.ensures (c.in-Some.is ∙ ap Some c.in-Splits.is) create));
    report = λ asked asks. subst (λ a. EndsBy (ReportFinds a) (outside_of (g.S.ObjectStore.told c.args.store) (g.S.ObjectStore.fault_count c.args.store) (g.R.Source.left c.args.input.now) (g.R.Source.fault_count c.args.input.now) (g.W.Sink.content c.args.output.now) (g.W.Sink.fault_count c.args.output.now))
        (outside_of (g.S.ObjectStore.told c.report.result.0.store) (g.S.ObjectStore.fault_count c.report.result.0.store) (g.R.Source.left c.args.input.now) (g.R.Source.fault_count c.args.input.now) (g.W.Sink.content c.report.new.output) (g.W.Sink.fault_count c.report.new.output))
        c.report.result.0.status) (same_of (asked_so _ _ (Some commands.Splits) asked c.in-Ok.ensures (c.in-Some.is ∙ ap Some c.in-Splits.is) asks)) c.report.ensures.opening;
  };
  causes = c.report.ensures.causes.causes;
  statuses = record {
    drive = λ drive. absurd (splits_or_drive (named_so _ _ (Some commands.Splits) commands.Drive c.in-Ok.ensures (c.in-Some.is ∙ ap Some c.in-Splits.is) drive));
    run = λ run. absurd (splits_or_run (named_run (map string_bytes c.args.words.now) _ (Some commands.Splits) run.0 c.in-Ok.ensures (c.in-Some.is ∙ ap Some c.in-Splits.is) run.1));
    create = λ create. absurd (splits_or_create (named_so _ _ (Some commands.Splits) commands.Create c.in-Ok.ensures (c.in-Some.is ∙ ap Some c.in-Splits.is) create));
    report = λ asked asks. c.report.ensures.causes.known;
    other = λ other run none splits describe. absurd (splits (names_alone _ commands.Splits (sym c.in-Ok.ensures ∙ c.in-Some.is ∙ ap Some c.in-Splits.is)));
  };
  counts = c.report.ensures.store_faults;
  log_sum = c.report.ensures.log_sum;
  unread = λ other run. c.report.ensures.unread;
}

-- ---- the command is `describe`

pub returns-in-Describe : goal.returns-in-Describe
returns-in-Describe g c = record {
  drives = λ history before drive shows enters. absurd (describe_or_drive (named_so _ _ (Some commands.Describe) commands.Drive c.in-Ok.ensures (c.in-Some.is ∙ ap Some c.in-Describe.is) drive));
  runs = λ options history before run within shows enters. absurd (describe_or_run (named_run (map string_bytes c.args.words.now) _ (Some commands.Describe) options c.in-Ok.ensures (c.in-Some.is ∙ ap Some c.in-Describe.is) run));
  creates = λ history before create shows enters. absurd (describe_or_create (named_so _ _ (Some commands.Describe) commands.Create c.in-Ok.ensures (c.in-Some.is ∙ ap Some c.in-Describe.is) create));
  reports = λ asked history before asks shows enters.
      let is : kinds.Describe ≡ asked = same_of (asked_so _ _ (Some commands.Describe) asked c.in-Ok.ensures (c.in-Some.is ∙ ap Some c.in-Describe.is) asks) in
      let done = c.report-in-Describe.ensures.reports history before shows enters in
      (done.0, done.1, subst (λ a. Reports a history before done.0 c.report-in-Describe.result.0.status) is done.2, done.3);
  only_reads = λ asked asks. record { kept = c.report-in-Describe.ensures.landed; left_same = refl; read_same = refl };
  refuses = λ other run none splits describe. absurd (describe (names_alone _ commands.Describe (sym c.in-Ok.ensures ∙ c.in-Some.is ∙ ap Some c.in-Describe.is)));
  opening = record {
    drive = λ drive. absurd (describe_or_drive (named_so _ _ (Some commands.Describe) commands.Drive c.in-Ok.ensures (c.in-Some.is ∙ ap Some c.in-Describe.is) drive));
    run = λ run. absurd (describe_or_run (named_run (map string_bytes c.args.words.now) _ (Some commands.Describe) run.0 c.in-Ok.ensures (c.in-Some.is ∙ ap Some c.in-Describe.is) run.1));
    create = λ create. absurd (describe_or_create (named_so _ _ (Some commands.Describe) commands.Create c.in-Ok.ensures (c.in-Some.is ∙ ap Some c.in-Describe.is) create));
    report = λ asked asks. subst (λ a. EndsBy (ReportFinds a) (outside_of (g.S.ObjectStore.told c.args.store) (g.S.ObjectStore.fault_count c.args.store) (g.R.Source.left c.args.input.now) (g.R.Source.fault_count c.args.input.now) (g.W.Sink.content c.args.output.now) (g.W.Sink.fault_count c.args.output.now))
        (outside_of (g.S.ObjectStore.told c.report-in-Describe.result.0.store) (g.S.ObjectStore.fault_count c.report-in-Describe.result.0.store) (g.R.Source.left c.args.input.now) (g.R.Source.fault_count c.args.input.now) (g.W.Sink.content c.report-in-Describe.new.output) (g.W.Sink.fault_count c.report-in-Describe.new.output))
        c.report-in-Describe.result.0.status) (same_of (asked_so _ _ (Some commands.Describe) asked c.in-Ok.ensures (c.in-Some.is ∙ ap Some c.in-Describe.is) asks)) c.report-in-Describe.ensures.opening;
  };
  causes = c.report-in-Describe.ensures.causes.causes;
  statuses = record {
    drive = λ drive. absurd (describe_or_drive (named_so _ _ (Some commands.Describe) commands.Drive c.in-Ok.ensures (c.in-Some.is ∙ ap Some c.in-Describe.is) drive));
    run = λ run. absurd (describe_or_run (named_run (map string_bytes c.args.words.now) _ (Some commands.Describe) run.0 c.in-Ok.ensures (c.in-Some.is ∙ ap Some c.in-Describe.is) run.1));
    create = λ create. absurd (describe_or_create (named_so _ _ (Some commands.Describe) commands.Create c.in-Ok.ensures (c.in-Some.is ∙ ap Some c.in-Describe.is) create));
    report = λ asked asks. c.report-in-Describe.ensures.causes.known;
    other = λ other run none splits describe. absurd (describe (names_alone _ commands.Describe (sym c.in-Ok.ensures ∙ c.in-Some.is ∙ ap Some c.in-Describe.is)));
  };
  counts = c.report-in-Describe.ensures.store_faults;
  log_sum = c.report-in-Describe.ensures.log_sum;
  unread = λ other run. c.report-in-Describe.ensures.unread;
}

-- ---- the command is `run`

within_bounds : (given : List (List ℕ)) (asked : RunOptions) → IsRun asked given → IsWithin asked
within_bounds given asked run = let words = names_alone given (commands.Run asked) run in run_is_within words.0 asked words.2

pub options_of-options-requires : goal.options_of-options-requires
options_of-options-requires g c = within_bounds (map string_bytes c.args.words.now) c.in-Run.asked (sym c.in-Ok.ensures ∙ (c.in-Some.is ∙ ap Some c.in-Run.is))

pub run_index-requires-clause-indexers : goal.run_index-requires-clause-indexers
run_index-requires-clause-indexers g c κs lives =
    let w = (within_bounds (map string_bytes c.args.words.now) c.in-Run.asked (sym c.in-Ok.ensures ∙ (c.in-Some.is ∙ ap Some c.in-Run.is))).indexers in
    let is = ap (λ (o : Options). o.indexers) c.options_of-options.ensures in
    let few = c.if-len-options.false in
    let len = c.len.ensures in
    let low = w.0 in
    let high = w.1 in
    (omega (arith, is, low), omega (arith, is, high), omega (arith, few, len))

pub run_index-requires-clause-searchers : goal.run_index-requires-clause-searchers
run_index-requires-clause-searchers g c κs lives =
    let w = (within_bounds (map string_bytes c.args.words.now) c.in-Run.asked (sym c.in-Ok.ensures ∙ (c.in-Some.is ∙ ap Some c.in-Run.is))).searchers in
    let is = ap (λ (o : Options). o.searchers) c.options_of-options.ensures in
    let low = w.0 in
    let high = w.1 in
    (omega (arith, is, low), omega (arith, is, high))

-- of more indexers than there are logs
too_many : (given : List (List ℕ)) (asked : RunOptions) (options : Options) (logs : ℕ) → IsRun asked given → options ≡ options_of asked → logs < options.indexers → AsksRun logs given → ⊥
too_many given asked options logs run is many asks =
    let same : asked ≡ asks.0 = same_run (sym run ∙ asks.1) in
    let few : asked.indexers ≤ logs = subst (λ (o : RunOptions). o.indexers ≤ logs) (sym same) asks.2 in
    let count = ap (λ (o : Options). o.indexers) is in
    omega (arith, few, count, many)

pub returns-then-len-options : goal.returns-then-len-options
returns-then-len-options g c = record {
  drives = λ history before drive shows enters. absurd (run_or_drive (named_so _ _ (Some (commands.Run c.in-Run.asked)) commands.Drive c.in-Ok.ensures (c.in-Some.is ∙ ap Some c.in-Run.is) drive));
  runs = λ options history before run within shows enters. absurd (none (options, run, within));
  creates = λ history before create shows enters. absurd (run_or_create (named_so _ _ (Some (commands.Run c.in-Run.asked)) commands.Create c.in-Ok.ensures (c.in-Some.is ∙ ap Some c.in-Run.is) create));
  reports = λ asked history before asks shows enters. absurd (unnamed (asked_so _ _ (Some (commands.Run c.in-Run.asked)) asked c.in-Ok.ensures (c.in-Some.is ∙ ap Some c.in-Run.is) asks));
  only_reads = λ asked asks. absurd (unnamed (asked_so _ _ (Some (commands.Run c.in-Run.asked)) asked c.in-Ok.ensures (c.in-Some.is ∙ ap Some c.in-Run.is) asks));
  refuses = λ other run none splits describe. (
    record {
      kept = ap g.S.ObjectStore.told c.refuse-then-len-options.ensures.store;
      store_count = ap g.S.ObjectStore.fault_count c.refuse-then-len-options.ensures.store;
      reported = c.refuse-then-len-options.ensures.store_faults;
      log_sum = c.refuse-then-len-options.ensures.log_sum ∙ ap (λ ls. min (sum (map g.L.SourceLog.fault_count ls)) last_count) c.refuse-then-len-options.ensures.logs;
      left_same = refl;
      read_same = refl;
    },
    c.refuse-then-len-options.ensures.writes,
  );
  opening = record {
    drive = λ drive. absurd (run_or_drive (named_so _ _ (Some (commands.Run c.in-Run.asked)) commands.Drive c.in-Ok.ensures (c.in-Some.is ∙ ap Some c.in-Run.is) drive));
    run = λ run. absurd (none run);
    create = λ create. absurd (run_or_create (named_so _ _ (Some (commands.Run c.in-Run.asked)) commands.Create c.in-Ok.ensures (c.in-Some.is ∙ ap Some c.in-Run.is) create));
    report = λ asked asks. absurd (unnamed (asked_so _ _ (Some (commands.Run c.in-Run.asked)) asked c.in-Ok.ensures (c.in-Some.is ∙ ap Some c.in-Run.is) asks));
  };
  causes =
      other_causes (faults_of (g.S.ObjectStore.fault_count c.args.store) (g.R.Source.fault_count c.args.input.now) (g.W.Sink.fault_count c.args.output.now)) (faults_of (g.S.ObjectStore.fault_count c.refuse-then-len-options.result.0.store) (g.R.Source.fault_count c.args.input.now) (g.W.Sink.fault_count c.refuse-then-len-options.new.output))
      c.refuse-then-len-options.result.0.status (omega arith) c.refuse-then-len-options.ensures.counted c.refuse-then-len-options.ensures.status;
  statuses = record {
    drive = λ drive. absurd (run_or_drive (named_so _ _ (Some (commands.Run c.in-Run.asked)) commands.Drive c.in-Ok.ensures (c.in-Some.is ∙ ap Some c.in-Run.is) drive));
    run = λ run. absurd (none run);
    create = λ create. absurd (run_or_create (named_so _ _ (Some (commands.Run c.in-Run.asked)) commands.Create c.in-Ok.ensures (c.in-Some.is ∙ ap Some c.in-Run.is) create));
    report = λ asked asks. absurd (unnamed (asked_so _ _ (Some (commands.Run c.in-Run.asked)) asked c.in-Ok.ensures (c.in-Some.is ∙ ap Some c.in-Run.is) asks));
    other = λ other run none splits describe. c.refuse-then-len-options.ensures.status;
  };
  counts = c.refuse-then-len-options.ensures.store_faults ∙ sym (ap g.S.ObjectStore.fault_count c.refuse-then-len-options.ensures.store);
  log_sum = c.refuse-then-len-options.ensures.log_sum;
  unread = λ other run. c.refuse-then-len-options.ensures.logs;
}
  where
    none : AsksRun (length c.args.logs.items) (map string_bytes c.args.words.now) → ⊥
    none = too_many (map string_bytes c.args.words.now) c.in-Run.asked c.options_of-options.result (length c.args.logs.items) (sym c.in-Ok.ensures ∙ (c.in-Some.is ∙ ap Some c.in-Run.is)) c.options_of-options.ensures
        (let many = c.if-len-options.true in let len = c.len.ensures in omega (arith, many, len))

pub returns-else-len-options : goal.returns-else-len-options
returns-else-len-options g c = record {
  drives = λ history before drive shows enters. absurd (run_or_drive (named_so _ _ (Some (commands.Run c.in-Run.asked)) commands.Drive c.in-Ok.ensures (c.in-Some.is ∙ ap Some c.in-Run.is) drive));
  runs = λ options history before run within shows enters.
      let same : c.in-Run.asked ≡ options = same_run (sym is ∙ run) in
      c.run_index.ensures.runs options history before (c.options_of-options.ensures ∙ ap options_of same) shows enters;
  creates = λ history before create shows enters. absurd (run_or_create (named_so _ _ (Some (commands.Run c.in-Run.asked)) commands.Create c.in-Ok.ensures (c.in-Some.is ∙ ap Some c.in-Run.is) create));
  reports = λ asked history before asks shows enters. absurd (unnamed (asked_so _ _ (Some (commands.Run c.in-Run.asked)) asked c.in-Ok.ensures (c.in-Some.is ∙ ap Some c.in-Run.is) asks));
  only_reads = λ asked asks. absurd (unnamed (asked_so _ _ (Some (commands.Run c.in-Run.asked)) asked c.in-Ok.ensures (c.in-Some.is ∙ ap Some c.in-Run.is) asks));
  refuses = λ other run none splits describe. absurd (run asked);
  opening = record {
    drive = λ drive. absurd (run_or_drive (named_so _ _ (Some (commands.Run c.in-Run.asked)) commands.Drive c.in-Ok.ensures (c.in-Some.is ∙ ap Some c.in-Run.is) drive));
    run = λ run. c.run_index.ensures.opening;
    create = λ create. absurd (run_or_create (named_so _ _ (Some (commands.Run c.in-Run.asked)) commands.Create c.in-Ok.ensures (c.in-Some.is ∙ ap Some c.in-Run.is) create));
    report = λ asked asks. absurd (unnamed (asked_so _ _ (Some (commands.Run c.in-Run.asked)) asked c.in-Ok.ensures (c.in-Some.is ∙ ap Some c.in-Run.is) asks));
  };
  causes = c.run_index.ensures.causes.causes;
  statuses = record {
    drive = λ drive. absurd (run_or_drive (named_so _ _ (Some (commands.Run c.in-Run.asked)) commands.Drive c.in-Ok.ensures (c.in-Some.is ∙ ap Some c.in-Run.is) drive));
    run = λ run. c.run_index.ensures.causes.known;
    create = λ create. absurd (run_or_create (named_so _ _ (Some (commands.Run c.in-Run.asked)) commands.Create c.in-Ok.ensures (c.in-Some.is ∙ ap Some c.in-Run.is) create));
    report = λ asked asks. absurd (unnamed (asked_so _ _ (Some (commands.Run c.in-Run.asked)) asked c.in-Ok.ensures (c.in-Some.is ∙ ap Some c.in-Run.is) asks));
    other = λ other run none splits describe. absurd (run asked);
  };
  counts = c.run_index.ensures.store_faults;
  log_sum = c.run_index.ensures.log_sum;
  unread = λ other run. absurd (run asked);
}
  where
    is : IsRun c.in-Run.asked (map string_bytes c.args.words.now)
    is = sym c.in-Ok.ensures ∙ (c.in-Some.is ∙ ap Some c.in-Run.is)

    asked : AsksRun (length c.args.logs.items) (map string_bytes c.args.words.now)
    asked = (
      c.in-Run.asked,
      is,
      let few = c.if-len-options.false in
          let len = c.len.ensures in
          let count = ap (λ (o : Options). o.indexers) c.options_of-options.ensures in
          omega (arith, few, len, count),
    )
