pub mod HtmlLemmas
